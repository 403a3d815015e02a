-- What is found of records of which the last ones wait until their blocks are hashed.
use Rattle.std.proofs.Common.{◌≡◌, ℕ, zero, suc, ◌+◌, ◌-◌, ◌<◌, ◌≤◌, Bool, true, false, Some, Result, Ok, Err, IfOk, List, [], ◌∷◌, ◌++◌, length, map, take, drop, get_or, append_assoc, length-append, add-one, refl, sym, ap, ap₂, subst, ◌∙◌, arith}
use Rattle.std.specs.Prelude.{IfSome}
use Rattle.std.proofs.lemmas.List.{drop-append-le, length-drop, length-map, length-take-le, map-append, take-append-drop, take-append-le}
use Rattle.warc_field.specs.Area.{Pair}
use Rattle.warc_value.specs.Digests.{is_bad}
use Rattle.warc_value.specs.declared.hash.Verdict.{Verdict}
use Rattle.warc_record.specs.Blocks.{has_bad_digest}
use Rattle.warc_record.specs.Findings.{SeenFinding, findings_of}
use Rattle.warc_reading.specs.Archive.{contents}
use Rattle.warc_reading.specs.Judging.{verdict_on}
use Rattle.warc_reading.specs.Row.{Placed}
use Rattle.warc_frame.specs.Reading.{Head, any_fields, head_of}
use Rattle.warc_quick.specs.PlainFindings.{AreFindings, all_plain}
use Rattle.warc_quick.specs.Quick.{Says}
use Rattle.warc_quick.specs.declared.head.QuickHead.{QuickHead}
use Rattle.warc_quick.specs.declared.plain_findings.PlainFindings.{PlainFindings}
use Rattle.warc_checking.specs.Judging.{IsOneMore, all_shown, each_found_by, found_by, settled}
use Rattle.warc_checking.specs.Judged.{own_findings}
use Rattle.warc_checking.specs.OwnFindings.{Found, all_of, mark_at, shown_by, shown_plain, unjudged, with_bad}
use Rattle.warc_checking.proofs.AmongLemmas.{all_shown as shown_all, plain_shown}

found_by_none : (fs : List Found) → each_found_by fs [] ≡ fs
found_by_none [] = refl
found_by_none (f ∷ fs) = refl

each_more : (fs : List Found) (vs : List Verdict) (f : Found) (v : Verdict) → length fs ≡ length vs
    → each_found_by (fs ++ f ∷ []) (vs ++ v ∷ []) ≡ each_found_by fs vs ++ found_by f (is_bad v) ∷ []
each_more [] [] f v same = refl
each_more [] (w ∷ ws) f v same = absurd (omega (arith, same))
each_more (x ∷ xs) [] f v same = absurd (omega (arith, same))
each_more (x ∷ xs) (w ∷ ws) f v same = ap (λ l. found_by x (is_bad w) ∷ l) (each_more xs ws f v (omega (arith, same)))

-- one more record waits
pub settled_more : (found : List Found) (vs : List Verdict) (f : Found) (v : Verdict) → length vs ≤ length found
    → settled (found ++ f ∷ []) (vs ++ v ∷ []) ≡ settled found vs ++ found_by f (is_bad v) ∷ []
settled_more found vs f v le =
    let n = length found - length vs in
    let first : length (found ++ f ∷ []) - length (vs ++ v ∷ []) ≡ n =
    omega (arith, length-append found (f ∷ []), length-append vs (v ∷ [])) in
    let waiting : length (drop n found) ≡ length vs = omega (arith, length-drop n found, le) in
    ap (λ k. take k (found ++ f ∷ []) ++ each_found_by (drop k (found ++ f ∷ [])) (vs ++ v ∷ [])) first
    ∙ ap (λ l. l ++ each_found_by (drop n (found ++ f ∷ [])) (vs ++ v ∷ [])) (take-append-le n found (f ∷ []) (omega arith))
    ∙ ap (λ l. take n found ++ each_found_by l (vs ++ v ∷ [])) (drop-append-le n found (f ∷ []) (omega arith))
    ∙ ap (λ l. take n found ++ l) (each_more (drop n found) vs f v waiting)
    ∙ sym (append_assoc (take n found) (each_found_by (drop n found) vs) (found_by f (is_bad v) ∷ []))

each_len : (fs : List Found) (vs : List Verdict) → length (each_found_by fs vs) ≡ length fs
each_len [] vs = refl
each_len (f ∷ fs) [] = refl
each_len (f ∷ fs) (v ∷ vs) = ap (λ n. suc n) (each_len fs vs)

-- marking one more record, and the last ones so far
each_marked : (fs : List Found) (vs : List Verdict) (i : ℕ) (d : Verdict) → i < length vs → is_bad (get_or vs i d) ≡ true
    → mark_at (each_found_by fs (take i vs)) i ≡ each_found_by fs (take (suc i) vs)
each_marked [] vs i d lt is = refl
each_marked (f ∷ fs) [] i d lt is = absurd (omega (arith, lt))
each_marked (f ∷ fs) (v ∷ vs) zero d lt is =
    sym (ap (λ c. found_by f c ∷ each_found_by fs []) is ∙ ap (λ l. with_bad f ∷ l) (found_by_none fs))
each_marked (f ∷ fs) (v ∷ vs) (suc i) d lt is = ap (λ l. found_by f (is_bad v) ∷ l) (each_marked fs vs i d (omega (arith, lt)) is)

each_left : (fs : List Found) (vs : List Verdict) (i : ℕ) (d : Verdict) → i < length vs → is_bad (get_or vs i d) ≡ false
    → each_found_by fs (take i vs) ≡ each_found_by fs (take (suc i) vs)
each_left [] vs i d lt is = refl
each_left (f ∷ fs) [] i d lt is = absurd (omega (arith, lt))
each_left (f ∷ fs) (v ∷ vs) zero d lt is =
    sym (ap (λ c. found_by f c ∷ each_found_by fs []) is ∙ ap (λ l. f ∷ l) (found_by_none fs))
each_left (f ∷ fs) (v ∷ vs) (suc i) d lt is = ap (λ l. found_by f (is_bad v) ∷ l) (each_left fs vs i d (omega (arith, lt)) is)

mark_after : (before after : List Found) (i place : ℕ) → place ≡ length before + i
    → mark_at (before ++ after) place ≡ before ++ mark_at after i
mark_after [] after i place is = let same : place ≡ i = omega (arith, is) in ap (mark_at after) same
mark_after (x ∷ xs) after i zero is = absurd (omega (arith, is))
mark_after (x ∷ xs) after i (suc place) is = ap (λ l. x ∷ l) (mark_after xs after i place (omega (arith, is)))

-- the records before a place, and those after it, of which the first ones are marked
abbrev pub marked_from : List Found → ℕ → List Verdict → List Found
marked_from found place verdicts = take place found ++ each_found_by (drop place found) verdicts

pub marked_first : (found : List Found) (place : ℕ) → marked_from found place [] ≡ found
marked_first found place = ap (λ l. take place found ++ l) (found_by_none (drop place found)) ∙ take-append-drop place found

pub marked_more : (found : List Found) (place i : ℕ) (vs : List Verdict) (d : Verdict) → place ≤ length found → i < length vs
    → is_bad (get_or vs i d) ≡ true → mark_at (marked_from found place (take i vs)) (place + i) ≡ marked_from found place (take (i + 1) vs)
marked_more found place i vs d le lt is =
    mark_after (take place found) (each_found_by (drop place found) (take i vs)) i (place + i) (omega (arith, length-take-le place found le))
    ∙ ap (λ l. take place found ++ l) (each_marked (drop place found) vs i d lt is)
    ∙ ap (λ n. marked_from found place (take n vs)) (sym (add-one i))

pub marked_left : (found : List Found) (place i : ℕ) (vs : List Verdict) (d : Verdict) → i < length vs → is_bad (get_or vs i d) ≡ false
    → marked_from found place (take i vs) ≡ marked_from found place (take (i + 1) vs)
marked_left found place i vs d lt is =
    ap (λ l. take place found ++ l) (each_left (drop place found) vs i d lt is)
    ∙ ap (λ n. marked_from found place (take n vs)) (sym (add-one i))

pub marked_len : (found : List Found) (place : ℕ) (vs : List Verdict) → length (marked_from found place vs) ≡ length found
marked_len found place vs =
    length-append (take place found) (each_found_by (drop place found) vs)
    ∙ ap (λ k. length (take place found) + k) (each_len (drop place found) vs)
    ∙ sym (length-append (take place found) (drop place found)) ∙ ap length (take-append-drop place found)

-- nothing waits
pub settled_none : (found : List Found) → settled found [] ≡ found
settled_none found = marked_first found (length found - 0)

-- what a record shows, once it is known whether its digest differs
pub shown_then : (fields : List Pair) (len : ℕ) (bad : Bool) → all_of (found_by (shown_by fields len false) bad) ≡ findings_of fields len bad false
shown_then fields len true = shown_all fields len true
shown_then fields len false = shown_all fields len false

-- one more record was added, by the findings that are known of its plain head
pub plain_more : (fields : List Pair) (len : ℕ) (found : List SeenFinding) (old new : List Found) → AreFindings fields len found
    → new ≡ old ++ shown_plain found ∷ [] → IsOneMore fields len old new
plain_more fields len found old new are is = is ∙ ap (λ f. old ++ f ∷ []) (plain_shown fields len found are)

-- the findings that are known of a plain head are those of its record
pub known_found : (fields : List Pair) (head : QuickHead) (known : PlainFindings) (len : ℕ) → Says fields head
    → head.findings ≡ Some known → head.block_len ≡ len → AreFindings fields len (all_plain known)
known_found fields head known len says is size =
    let are = subst (λ m. IfSome m (λ listed. AreFindings fields head.block_len (all_plain listed))) is says.findings in
    subst (λ n. AreFindings fields n (all_plain known)) size are

-- the fields of the head that a text is
pub same_fields : (text : List ℕ) (a b : Head) → head_of any_fields text ≡ Ok a → head_of any_fields text ≡ Ok b → a.fields ≡ b.fields
same_fields text a b one other = let same : a ≡ b = cc in ap (λ (h : Head). h.fields) same

-- the findings of one more record
pub shown_one : (old new : List Found) (vs more : List Verdict) (f : Found) (v : Verdict) (found : List SeenFinding)
    → new ≡ old ++ f ∷ [] → more ≡ vs ++ v ∷ [] → length vs ≤ length old → all_of (found_by f (is_bad v)) ≡ found
    → all_shown new more ≡ all_shown old vs ++ found ∷ []
shown_one old new vs more f v found new_is more_is le is =
    ap (all_shown new) more_is ∙ ap (λ l. all_shown l (vs ++ v ∷ [])) new_is ∙ ap (map all_of) (settled_more old vs f v le)
    ∙ map-append all_of (settled old vs) (found_by f (is_bad v) ∷ []) ∙ ap (λ g. all_shown old vs ++ g ∷ []) is

pub if_ok : {X E : Type 0} (r : Result X E) (P : Type 0) → P → IfOk r (λ x. P)
if_ok (Ok x) P is = is
if_ok (Err e) P is = tt

-- what records show once the verdicts on the blocks of all are known
each_judged : (records : List Placed) → map all_of (each_found_by (map unjudged (contents records)) (map verdict_on records)) ≡ map own_findings (contents records)
each_judged [] = refl
each_judged (p ∷ ps) = ap₂ (λ f l. f ∷ l) (shown_then p.content.fields (length p.content.block) (has_bad_digest p.content)) (each_judged ps)

pub all_sizes : (records : List Placed) (old : List Found) (verdicts : List Verdict) → old ≡ map unjudged (contents records) → verdicts ≡ map verdict_on records
    → length verdicts ≡ length old
all_sizes records old verdicts found judged =
    ap length judged ∙ length-map records verdict_on ∙ sym (length-map records (λ (p : Placed). p.content)) ∙ sym (length-map (contents records) unjudged) ∙ sym (ap length found)

pub all_judged : (records : List Placed) (old new : List Found) (verdicts : List Verdict) → new ≡ settled old verdicts
    → old ≡ map unjudged (contents records) → verdicts ≡ map verdict_on records → map all_of new ≡ map own_findings (contents records)
all_judged records old new verdicts is found judged =
    let none : length old - length verdicts ≡ 0 = omega (arith, all_sizes records old verdicts found judged) in
    ap (map all_of) (is ∙ ap (λ k. marked_from old k verdicts) none ∙ ap₂ each_found_by found judged)
    ∙ each_judged records
