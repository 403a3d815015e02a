-- Which positions are written.
use Rattle.std.proofs.Common.{◌≡◌, ◌↔◌, ℕ, ◌<◌, Bool, true, false, List, [], ◌∷◌, find, get_or, nat_le, cond, Option, Some, None, Ok, Err, inl, inr, refl, sym, ap, subst, ◌∙◌}
use Rattle.std.specs.Prelude.{◌++◌, All, Contains, codes, decimal}
use Rattle.std.specs.List.Sorted.{IsStrictlyIncreasing}
use Rattle.std.proofs.lemmas.Bool.{leb-false}
use Rattle.std.proofs.lemmas.List.{append-nil}
use Rattle.std.proofs.lemmas.List.Elements.{All-cons, All-contains, All-from_get_or, All-nil, Contains-get_or}
use Rattle.warc_reading.specs.Opening.{Opens}
use Rattle.warc_reading.specs.Archive.{IsArchiveOf}
use Rattle.warc_reading.specs.Row.{Row}
use Rattle.warc_frame.specs.Effects.{FailsBy}
use Rattle.warc_frame.specs.Seen.{Seen, SeenSource}
use Rattle.warc_frame.specs.declared.fault.OutFault.{OutFault}
use Rattle.warc_frame.proofs.EffectLemmas.{fails_as, fails_more}
use Rattle.warc_rewrite.specs.Selecting.{AreOthers, ArePositions, IsSelection, selected_text}
use Rattle.warc_arguments.specs.declared.status.Status.{Status}
use Rattle.warc_commands.specs.Devices.{Devices, devices}
use Rattle.warc_commands.specs.Selected.{AreTheNamed, AreWanted, ChosenEnds, SelectEnds, SendEnds, selected_line}
use Rattle.warc_commands.specs.Program.{reported_line}
use Rattle.warc_commands.specs.Salvage.{amount_line}
use Rattle.warc_commands.proofs.ProgramLemmas.{has_failed, may_have_failed}

-- ---- positions that have records

none_first : (n x : ℕ) (b : Bool) (rest : Option ℕ) → nat_le n x ≡ b → cond b (Some x) rest ≡ None → (x < n) × (rest ≡ None)
none_first n x true rest test none = absurd (cc none)
none_first n x false rest test none = (leb-false n x test, none)

pub none_absent : (n : ℕ) (ps : List ℕ) → find (λ p. nat_le n p) ps ≡ None → All (λ p. p < n) ps
none_absent n [] none = All-nil (λ p. p < n)
none_absent n (p ∷ ps) none =
    let (first, rest) = none_first n p (nat_le n p) (find (λ p. nat_le n p) ps) refl none in
    All-cons (λ p. p < n) p ps first (none_absent n ps rest)

-- positions in order, each once
pub below_all : (n : ℕ) (ps qs : List ℕ) → ((p : ℕ) → Contains qs p ↔ Contains ps p) → All (λ p. p < n) ps → All (λ p. p < n) qs
below_all n ps qs same all =
    All-from_get_or (λ p. p < n) qs 0 (λ k lt. All-contains (λ p. p < n) ps (get_or qs k 0) all ((same (get_or qs k 0)).0 (Contains-get_or qs k 0 lt)))

pub in_order : (n : ℕ) (ps qs : List ℕ) → IsStrictlyIncreasing qs → ((p : ℕ) → Contains qs p ↔ Contains ps p) → All (λ p. p < n) ps → ArePositions n qs
in_order n ps qs up same all = record { ascending = up; below = below_all n ps qs same all }

pub the_named : (n : ℕ) (ps qs : List ℕ) → IsStrictlyIncreasing qs → ((p : ℕ) → Contains qs p ↔ Contains ps p) → All (λ p. p < n) ps → AreTheNamed n ps qs
the_named n ps qs up same all = record { are = in_order n ps qs up same all; each = same }

pub the_others : (n : ℕ) (ps qs others : List ℕ) → ((p : ℕ) → Contains qs p ↔ Contains ps p) → AreOthers n qs others → AreOthers n ps others
the_others n ps qs others same is = record {
  are = is.are;
  each = λ p. (
    λ in_. (let (less, off) = (is.each p).0 in_ in (less, λ has. off ((same p).1 has))),
    λ (less, off). (is.each p).1 (less, λ has. off ((same p).0 has)),
  );
}

pub wants_others : (b : Bool) (n : ℕ) (ps qs seen others : List ℕ) → b ≡ true → ((p : ℕ) → Contains qs p ↔ Contains ps p) → seen ≡ qs → AreOthers n seen others → AreWanted b n ps others
wants_others true n ps qs seen others is same seen_is are = let P : List ℕ → Type 0 = λ l. AreOthers n l others in the_others n ps qs others same (subst P seen_is are)
wants_others false n ps qs seen others is same seen_is are = absurd (cc is)

pub wants_the_named : (b : Bool) (n : ℕ) (ps qs : List ℕ) → b ≡ false → IsStrictlyIncreasing qs → ((p : ℕ) → Contains qs p ↔ Contains ps p) → All (λ p. p < n) ps → AreWanted b n ps qs
wants_the_named true n ps qs is up same all = absurd (cc is)
wants_the_named false n ps qs is up same all = the_named n ps qs up same all

pub there_by : (ps seen : List ℕ) (count n : ℕ) (found : Option ℕ) → seen ≡ ps → count ≡ n → found ≡ find (λ p. nat_le count p) seen → found ≡ None → All (λ p. p < n) ps
there_by ps seen count n found seen_is count_is found_is none =
    let P : List ℕ → Type 0 = λ l. All (λ p. p < n) l in
    let Q : ℕ → Type 0 = λ m. All (λ p. p < m) seen in
    subst P seen_is (subst Q count_is (none_absent count seen (sym found_is ∙ none)))

-- ---- what went out

-- a line after which there is no more
pub nothing_after : (n size : ℕ) → amount_line (codes "selected") n size ≡ selected_line n size []
nothing_after n size = ap (λ l. reported_line l) (sym (append-nil (codes "selected " ++ decimal n ++ codes " records, " ++ decimal size ++ codes " bytes")))

pub fails_over : (rows : List Row) (ps : List ℕ) {e : OutFault} {old new : SeenSource} → FailsBy {X = Unit {0}} (λ bytes. (text : List ℕ) × IsSelection rows ps bytes text) (Err e) old new
    → FailsBy {X = ℕ} (λ bytes. IsArchiveOf bytes rows) (Err e) old new
fails_over rows ps {e} {old} {new} fails = fails_as (Unit {0}) ℕ (fails_more (λ bytes held is. (selected_text rows ps bytes, (is, refl))) fails)

-- how sending ends, from what the source was before the archive was opened
module _ {rows : List Row} {old mid : SeenSource} (kept : mid.holds ≡ old.holds) (cause : mid.faults ≡ old.faults) (out err : Seen) (new : Devices) (status : Status) where
  pub sent_before : (more ps : List ℕ) → SendEnds more rows ps (devices mid out err) new status → SendEnds more rows ps (devices old out err) new status
  sent_before more ps (inl sent) = inl (record {
    size = sent.size;
    reported = λ bytes held is. sent.reported bytes (kept ∙ held) is;
    size_is = λ bytes held is. sent.size_is bytes (kept ∙ held) is;
    unfailed = sent.unfailed;
    sound = sent.sound ∙ cause;
    printed = sent.printed;
    status_is = sent.status_is;
  })
  sent_before more ps (inr cut) = inr (record {
    fault = cut.fault;
    device = cut.device;
    front = λ bytes held is. cut.front bytes (kept ∙ held) is;
    fails = record {
      may = may_have_failed cut.fault _ _ _ _ cause refl cut.fails.may;
      failed = λ bytes held is. has_failed cut.fault _ _ _ _ cause refl (cut.fails.failed bytes (kept ∙ held) is);
    };
    failed = cut.failed;
    reported = cut.reported;
    status_is = cut.status_is;
  })

module _ {rows : List Row} {old mid : SeenSource} (opens : Opens IsArchiveOf old mid (Ok rows)) (out err : Seen) (new : Devices) (status : Status) where
  chosen_before : (except : Bool) (named : List ℕ) → ChosenEnds except named rows (devices mid out err) new status → ChosenEnds except named rows (devices old out err) new status
  chosen_before except named (inl is) = inl (record { there = is.there; chosen = is.chosen; are = is.are; ends = sent_before opens.reads.kept opens.reads.cause out err new status [] is.chosen is.ends })
  chosen_before except named (inr (inl is)) = inr (inl (record { absent = is.absent; first = is.first; sound = is.sound ∙ opens.reads.cause; untouched = is.untouched; reported = is.reported; status_is = is.status_is }))
  chosen_before except named (inr (inr is)) = inr (inr (record { sound = is.sound ∙ opens.reads.cause; untouched = is.untouched; reported = is.reported; status_is = is.status_is }))

pub select_by : {except : Bool} {named : List ℕ} {rows : List Row} {old mid last new : SeenSource} {out out' err err' : Seen} {status : Status} → Opens IsArchiveOf old mid (Ok rows) → new ≡ last
    → ChosenEnds except named rows (devices mid out err) (devices last out' err') status → SelectEnds except None named (devices old out err) (devices new out' err') status
select_by {except} {named} {rows} {old} {mid} {last} {new} {out} {out'} {err} {err'} {status} opens same ends =
    let P : SeenSource → Type 0 = λ t. SelectEnds except None named (devices old out err) (devices t out' err') status in
    subst P (sym same) (inl (record { rows = rows; are = opens.accepted; ends = chosen_before opens out err (devices last out' err') status except named ends }))
