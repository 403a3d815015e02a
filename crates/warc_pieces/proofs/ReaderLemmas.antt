-- What a reader of pieces has given, and where it is.
use Rattle.std.proofs.Common.{Bool, false, IfSome, min, ◌≡◌, ◌≢◌, ℕ, zero, suc, ⊎_elim, ◌+◌, ◌-◌, ◌*◌, ◌<◌, ◌≤◌, ◌⊎◌, inl, inr, List, [], ◌∷◌, ◌++◌, length, length-append, take, drop, Option, None, Some, Result, Ok, Err, refl, sym, ap, subst, ◌∙◌, arith}
use Rattle.std.proofs.lemmas.List.{drop-drop, drop_all, length-drop, length-take, take_all}
use Rattle.std.proofs.Math.Seq.{drop-append_seam}
use Rattle.std.proofs.lemmas.Bool.{cases_lt}
use Rattle.warc_frame.specs.Device.{Gives}
use Rattle.warc_frame.specs.Faults.{HasFault, ReadsAs}
use Rattle.warc_frame.specs.Record.{max_archive}
use Rattle.warc_frame.specs.Seen.{AsksOnly, SeenSource}
use Rattle.warc_frame.specs.declared.fault.Fault.{Fault}
use Rattle.warc_frame.specs.declared.fault.FaultKind.{FaultKind}
use Rattle.warc_frame.specs.declared.fault.FaultKind.TheVariants as kinds
use Rattle.warc_record.specs.Heads.{head_fault}
use Rattle.warc_reading.specs.Fronts.{BeginsWithNone, reach_by, reach_of}
use Rattle.warc_pieces.specs.Judging.{IsUnreadAt, MissesBy}
use Rattle.warc_pieces.specs.Pieces.{AreFirst, BeginsWithOne, IsDamage, IsPiece, IsRun, near}
use Rattle.warc_pieces.specs.Reader.{Advances, ReadsFew, lines_between, GoesBy, GivesMore, GivesOf, AreGiven, IsPieceAt, IsStop, IsWalkAt, IsWalkBefore, StopsBy, faults_after_stop}
use Rattle.warc_pieces.specs.Run.{RunEndsBy, IsRead, answer_of}
use Rattle.warc_pieces.specs.Search.{IsNextRecord, IsSearchStopped, lines_in}
use Rattle.warc_pieces.specs.Window.{ReadsBy, Shown, Shows, failures_after}
use Rattle.warc_pieces.specs.declared.piece.Piece.{Piece}
use Rattle.warc_pieces.specs.declared.piece.Piece.TheVariants.{Records, Damage}
use Rattle.warc_pieces.specs.declared.pieces.Walk.{Walk}
use Rattle.warc_pieces.proofs.PieceLemmas.{all_pieces, first_within, one_more, run_within}
use Rattle.warc_pieces.proofs.ReadsLemmas.{no_fault_by}
use Rattle.warc_pieces.proofs.RunLemmas.{begins_with_none}
use Rattle.warc_pieces.proofs.SearchLemmas.{failed_from, none_in_part}

near_short : (bytes : List ℕ) → length (near bytes) ≤ max_archive
unfolding near
near_short bytes = omega (arith, length-take max_archive bytes)

near_size : (bytes : List ℕ) → length (near bytes) ≡ min max_archive (length bytes)
unfolding near
near_size bytes = length-take max_archive bytes

near_all : (bytes : List ℕ) → length bytes ≤ max_archive → near bytes ≡ bytes
unfolding near
near_all bytes short = take_all max_archive bytes short

near_twice : (bytes : List ℕ) → take max_archive (near bytes) ≡ near bytes
near_twice bytes = take_all max_archive (near bytes) (near_short bytes)

-- ---- what was given

piece_here : (at : ℕ) (text : List ℕ) (piece : Piece) → IsPiece at (drop at text) piece → IsPiece at (drop (at - 0) text) piece
piece_here at text piece is =
    let same : at ≡ at - 0 = omega arith in
    let P : ℕ → Type 0 = λ n. IsPiece at (drop n text) piece in
    subst P same is

-- a reader has given one more answer
pub gives_more : (bytes : List ℕ) (at after : ℕ) (failure : Option Fault) (pieces : List Piece) (answer : Result (Option Piece) Fault)
    → AreGiven bytes at None pieces → GivesOf bytes at after failure answer → GivesMore bytes after failure pieces answer
gives_more bytes at after None pieces (Ok (Some piece)) given next =
    let P : List ℕ → Type 0 = λ t. IsPiece at (drop at t) piece in
    let is : IsPiece at (drop at (near bytes)) piece = subst P (near_twice bytes) next.is in
    let Q : ℕ → Type 0 = λ n. AreFirst 0 (near bytes) (pieces ++ piece ∷ []) n in
    subst Q (sym next.after_is) (one_more 0 (near bytes) pieces at piece given (piece_here at (near bytes) piece is))
gives_more bytes at after (Some f) pieces (Ok (Some piece)) given next =
    record { first = pieces; at = at; end = after; are = given; last = inr (piece, refl, next.before (λ e. cc e), next.is, next.after_is); stops = next.stops }
gives_more bytes at after failure pieces (Ok None) given (end, sound) =
    let low = first_within 0 (near bytes) pieces at given in
    let short : length bytes ≤ max_archive = omega (arith, low, near_short bytes, end) in
    let whole : at ≡ 0 + length (near bytes) = omega (arith, end, ap length (near_all bytes short)) in
    (all_pieces 0 (near bytes) pieces at given whole, short)
gives_more bytes at after failure pieces (Err f) given (stops, same) =
    record { first = pieces; at = at; end = at; are = given; last = inl (refl, refl); stops = stops }

-- ---- a run

-- a run to the end of the bytes is a piece
pub run_to_end : (bytes : List ℕ) (at count len : ℕ) (found : Option Fault) → 0 < count → IsRun at (drop at (near bytes)) count len found
    → IsPieceAt bytes at (at + len) None (Records at len count)
run_to_end bytes at count len found some run =
    let P : List ℕ → Type 0 = λ t. IsRun at (drop at t) count len found in
    record { is = (refl, some, found, subst P (sym (near_twice bytes)) run); after_is = refl; before = λ no. absurd (no refl); stops = tt }

-- what comes next is why reading stops
stop_here : (bytes : List ℕ) (end : ℕ) (f : Fault) → StopsBy f.kind bytes end end f → IsStop bytes end f
stop_here bytes end f by = record { stop = end; after = omega arith; none = λ q first last. absurd (omega (arith, first, last)); by = by }

-- so is a run to a failure
module _ (bytes : List ℕ) (at count len : ℕ) (f : Fault) where
  abbrev pub Fails : FaultKind → Type 0
  Fails kind = (found : Option Fault) × IsRun at (drop at (take (reach_by kind f.offset) (near bytes))) count len found × StopsBy kind bytes (at + len) (at + len) f

  pub read_fails : f.kind ≡ kinds.Read → RunEndsBy f.kind at bytes count len f → Fails f.kind
  read_fails is ends =
      let P : FaultKind → Type 0 = λ kind. RunEndsBy kind at bytes count len f in
      let parts : RunEndsBy kinds.Read at bytes count len f = subst P is ends in
      subst Fails (sym is) parts

  pub memory_fails : f.kind ≡ kinds.Memory → RunEndsBy f.kind at bytes count len f → Fails f.kind
  memory_fails is ends =
      let P : FaultKind → Type 0 = λ kind. RunEndsBy kind at bytes count len f in
      let parts : RunEndsBy kinds.Memory at bytes count len f = subst P is ends in
      let (offset, within, run) = parts in
      subst Fails (sym is) (None, run, (offset, omega (arith, offset, within)))

pub run_to_failure : (bytes : List ℕ) (at count len : ℕ) (f : Fault) → 0 < count → Fails bytes at count len f f.kind
    → IsPieceAt bytes at (at + len) (Some f) (Records at len count)
run_to_failure bytes at count len f some (found, run, stops) =
    record { is = (refl, some, found, run); after_is = refl; before = λ no. refl; stops = stop_here bytes (at + len) f stops }

-- a run to damage
pub run_to_damage : (bytes : List ℕ) (at count len : ℕ) (f : Fault) (kind : FaultKind) → kind ≢ kinds.Read → kind ≢ kinds.Memory
    → RunEndsBy kind at bytes count len f → IsRun at (drop at (near bytes)) count len (Some f)
run_to_damage bytes at count len f kinds.Version a b run = run
run_to_damage bytes at count len f kinds.HeadTooLong a b run = run
run_to_damage bytes at count len f kinds.Field a b run = run
run_to_damage bytes at count len f (kinds.Missing name) a b run = run
run_to_damage bytes at count len f (kinds.Repeated name) a b run = run
run_to_damage bytes at count len f kinds.Length a b run = run
run_to_damage bytes at count len f kinds.BadType a b run = run
run_to_damage bytes at count len f kinds.Id a b run = run
run_to_damage bytes at count len f kinds.Date a b run = run
run_to_damage bytes at count len f kinds.End a b run = run
run_to_damage bytes at count len f kinds.Truncated a b run = run
run_to_damage bytes at count len f kinds.TooLong a b run = run
run_to_damage bytes at count len f kinds.Read a b run = absurd (a refl)
run_to_damage bytes at count len f kinds.Memory a b run = absurd (b refl)

-- a run is in the bytes
pub run_inside : (bytes : List ℕ) (at count len : ℕ) (found : Option Fault) → at ≤ length (near bytes)
    → IsRun at (drop at (near bytes)) count len found → at + len ≤ length (near bytes)
run_inside bytes at count len found low run =
    omega (arith, low, run_within at (drop at (near bytes)) count len found run, length-drop at (near bytes))

-- a run of the first bytes does
front_inside : (bytes : List ℕ) (at count len m : ℕ) (found : Option Fault) → at ≤ length (near bytes)
    → IsRun at (drop at (take m (near bytes))) count len found → at + len ≤ length (near bytes)
front_inside bytes at count len m found low run =
    omega (arith, low, run_within at (drop at (take m (near bytes))) count len found run, length-drop at (take m (near bytes)), length-take m (near bytes))

-- a run to the end of the bytes ends there
pub run_at_end : (bytes : List ℕ) (at count len : ℕ) → at ≤ length (near bytes) → IsRun at (drop at (near bytes)) count len None
    → at + len ≡ length (near bytes)
run_at_end bytes at count len low run =
    let all = ap length run.reads.text ∙ length-append run.reads.front run.reads.rest in
    let none : length run.reads.rest ≡ 0 = ap length run.reads.fault_is in
    omega (arith, low, all, none, run.len_is, length-drop at (near bytes))

-- the fault after a run is that of what follows it
pub found_after : (at : ℕ) (text : List ℕ) (count len : ℕ) (f : Fault) → IsRun at (drop at text) count len (Some f)
    → ReadsAs head_fault (at + len) (drop (at + len) text) [] (Some f)
found_after at text count len f run =
    let front = run.reads.front in
    let rest = run.reads.rest in
    let whole : drop (at + len) text ≡ rest =
    sym (drop-drop len at text) ∙ ap (drop len) run.reads.text ∙ ap (λ n. drop n (front ++ rest)) run.len_is ∙ drop-append_seam front rest in
    let offset : at + length front ≡ (at + len) + 0 = omega (arith, run.len_is) in
    let P : ℕ → Type 0 = λ n. HasFault head_fault n rest (Some f) in
    let Q : List ℕ → Type 0 = λ t. HasFault head_fault ((at + len) + 0) t (Some f) in
    record {
      front = [];
      rest = drop (at + len) text;
      text = refl;
      spelled = refl;
      accepted = tt;
      fault_is = subst Q (sym whole) (subst P offset run.reads.fault_is);
    }

-- ---- damage

none_here : (at : ℕ) (text : List ℕ) (f : Fault) → ReadsAs head_fault at text [] (Some f) → BeginsWithNone text
none_here at text f reads =
    let whole : text ≡ reads.rest = reads.text ∙ ap (λ t. t ++ reads.rest) reads.spelled in
    let (some, g, is, offset) = reads.fault_is in
    let P : List ℕ → Type 0 = λ t. BeginsWithNone t in
    subst P (sym whole) (begins_with_none reads.rest g is)

none_from : (bytes : List ℕ) (at next : ℕ) (f : Fault) → ReadsAs head_fault at (drop at (near bytes)) [] (Some f) → IsNextRecord bytes (at + 1) next
    → (n : ℕ) → n < next - at → BeginsWithNone (drop n (drop at (near bytes)))
none_from bytes at next f found is zero low = none_here at (drop at (near bytes)) f found
none_from bytes at next f found is (suc n) low =
    let P : List ℕ → Type 0 = λ t. BeginsWithNone t in
    subst P (sym (drop-drop (suc n) at (near bytes))) (is.none (at + suc n) (omega arith) (omega (arith, low)))

-- damage that ends where the next good record begins is a piece
pub damage_piece : (bytes : List ℕ) (at next : ℕ) (f : Fault) → at ≤ length (near bytes) → ReadsAs head_fault at (drop at (near bytes)) [] (Some f)
    → IsNextRecord bytes (at + 1) next → IsPieceAt bytes at next None (Damage at (next - at) f)
damage_piece bytes at next f low found is =
    let text = drop at (near bytes) in
    let size : length text ≡ length (near bytes) - at = length-drop at (near bytes) in
    let there : at + (next - at) ≡ next = omega (arith, is.after) in
    let one : BeginsWithOne (drop next (near bytes)) → BeginsWithOne (drop (next - at) text) = λ begins.
    let P : List ℕ → Type 0 = λ t. BeginsWithOne t in
    subst P (sym (drop-drop (next - at) at (near bytes) ∙ ap (λ n. drop n (near bytes)) there)) begins in
    let damage : IsDamage at text (next - at) f = record {
      fault_is = found;
      some = omega (arith, is.after);
      within = omega (arith, is.within, size);
      none = none_from bytes at next f found is;
      next = ⊎_elim (λ end. inl (omega (arith, end, size))) (λ begins. inr (one begins)) is.next;
    } in
    let P : List ℕ → Type 0 = λ t. IsDamage at (drop at t) (next - at) f in
    record { is = (refl, subst P (sym (near_twice bytes)) damage); after_is = sym there; before = λ no. absurd (no refl); stops = tt }

-- ---- where a walk is

-- at offset 2^48 a source ends, if a read there gives nothing
pub ends_there : (bytes : List ℕ) (at n : ℕ) (buf : List ℕ) → at ≡ max_archive → at ≤ length (near bytes) → Gives bytes max_archive buf n → n ≡ 0
    → 0 < length buf → at ≡ length bytes
ends_there bytes at n buf limit low gives none room =
    let size = near_size bytes in
    let short : length bytes ≤ max_archive =
    ⊎_elim (λ (more : max_archive < length bytes). absurd (omega (arith, gives.some more room, none))) (λ (few : length bytes ≤ max_archive). few) (cases_lt max_archive (length bytes)) in
    omega (arith, limit, low, short, ap length (near_all bytes short))

cut_there : (at m : ℕ) (t : List ℕ) → at ≡ m → drop at (take m t) ≡ []
cut_there at m t same = drop_all at (take m t) (omega (arith, same, length-take m t))

-- there a read fails, or the bytes go on
pub unread_there : (bytes : List ℕ) (at : ℕ) → at ≡ max_archive → at ≤ length (near bytes) → IsStop bytes at (record { kind = kinds.Read; offset = max_archive }) × (at ≡ at)
unread_there bytes at limit low =
    let unread : IsUnreadAt at bytes max_archive = record {
      after = omega (arith, limit);
      cut = inl (cut_there at max_archive (near bytes) limit);
    } in
    (stop_here bytes at (record { kind = kinds.Read; offset = max_archive }) unread, refl)

pub too_long_there : (bytes : List ℕ) (at n : ℕ) (buf : List ℕ) → at ≡ max_archive → Gives bytes max_archive buf n → 0 < n → IsStop bytes at (record { kind = kinds.TooLong; offset = max_archive }) × (at ≡ at)
too_long_there bytes at n buf limit gives some =
    (stop_here bytes at (record { kind = kinds.TooLong; offset = max_archive }) (refl, limit, omega (arith, gives.within, some)), refl)

-- a walk that has kept a failure
pub has_failed : {A : Type 0} (bytes : List ℕ) (old new : Walk A) (f g : Fault) (answer : Result (Option Piece) Fault) → IsWalkAt bytes old → answer ≡ Err f → f ≡ g
    → (new.window ≡ old.window) × (new.at ≡ old.at) × (new.damage ≡ old.damage) → IsStop bytes old.at g × (old.at ≡ old.at) → IsWalkAt bytes new × GivesOf bytes old.at new.at new.failure answer
has_failed {A} bytes old new f g answer is answer_is same (window, at, damage) (stop, here) =
    let P : Result (Option Piece) Fault → Type 0 = λ a. GivesOf bytes old.at new.at new.failure a in
    let Q : Fault → Type 0 = λ x. IsStop bytes old.at x in
    let W : Shown → Type 0 = λ w. IsWalkBefore bytes w new.at new.damage in
    let D : Option Fault → Type 0 = λ d. IsWalkBefore bytes old.window new.at d in
    let N : ℕ → Type 0 = λ n. IsWalkBefore bytes old.window n old.damage in
    (subst W (sym window) (subst D (sym damage) (subst N (sym at) is)), subst P (sym answer_is) (subst Q (sym same) stop, at))

some_length : (t : List ℕ) → t ≢ [] → 0 < length t
some_length [] other = absurd (other refl)
some_length (b ∷ bs) other = omega arith

-- what has a fault has a byte
found_inside : (bytes : List ℕ) (at : ℕ) (f : Fault) → at ≤ length (near bytes) → ReadsAs head_fault at (drop at (near bytes)) [] (Some f)
    → at + 1 ≤ length (near bytes)
found_inside bytes at f low found =
    let all = ap length found.text ∙ length-append found.front found.rest in
    omega (arith, low, all, some_length found.rest found.fault_is.0, length-drop at (near bytes))

-- damage was found, and the next good record
pub damage_given : (bytes : List ℕ) (at next : ℕ) (f : Fault) (failure : Option Fault) (w : Shown) → failure ≡ None → Shows bytes w → at ≤ length (near bytes)
    → ReadsAs head_fault at (drop at (near bytes)) [] (Some f) → IsNextRecord bytes (at + 1) next
    → IsWalkBefore bytes w next None × IsPieceAt bytes at next failure (Damage at (next - at) f)
damage_given bytes at next f failure w none shows low found is =
    let P : Option Fault → Type 0 = λ o. IsPieceAt bytes at next o (Damage at (next - at) f) in
    (record { shows = shows; within = is.within; found = tt }, subst P (sym none) (damage_piece bytes at next f low found is))

-- a search that stopped is why reading stops
reach_is : (kind : FaultKind) (offset : ℕ) → (kind ≡ kinds.Read) ⊎ (kind ≡ kinds.Memory) → reach_by kind offset ≡ offset
reach_is kinds.Read offset fails = refl
reach_is kinds.Memory offset fails = refl
reach_is kind offset fails = absurd (⊎_elim (λ e. cc) (λ e. cc) fails)

stops_by : (kind : FaultKind) (bytes : List ℕ) (end stop : ℕ) (f : Fault) → (kind ≡ kinds.Read) ⊎ (kind ≡ kinds.Memory) → MissesBy kind stop bytes f → StopsBy kind bytes end stop f
stops_by kinds.Read bytes end stop f fails miss = miss
stops_by kinds.Memory bytes end stop f fails miss = miss
stops_by kind bytes end stop f fails miss = absurd (⊎_elim (λ e. cc) (λ e. cc) fails)

search_stop : (bytes : List ℕ) (at : ℕ) (g f : Fault) → ReadsAs head_fault at (drop at (near bytes)) [] (Some g) → (f.kind ≡ kinds.Read) ⊎ (f.kind ≡ kinds.Memory)
    → IsSearchStopped bytes (at + 1) f → IsStop bytes at f
search_stop bytes at g f found fails stopped =
    let reach : f.offset ≡ reach_of f = sym (reach_is f.kind f.offset fails) in
    let low = failed_from f.kind stopped.at bytes f fails stopped.misses in
    let P : ℕ → Type 0 = λ m. (q : ℕ) → at ≤ q → q < stopped.at → BeginsWithNone (drop q (take m (near bytes))) in
    let none : P f.offset = λ q first last. ⊎_elim
    (λ (here : q < at + 1).
    let same : at ≡ q = omega (arith, first, here) in
    let Q : ℕ → Type 0 = λ k. BeginsWithNone (drop k (take f.offset (near bytes))) in
    subst Q same (none_in_part (near bytes) at f.offset (omega (arith, low, stopped.after)) (none_here at (drop at (near bytes)) g found)))
    (λ (later : at + 1 ≤ q). stopped.none q later last)
    (cases_lt q (at + 1)) in
    record { stop = stopped.at; after = omega (arith, stopped.after); none = subst P reach none; by = stops_by f.kind bytes at stopped.at f fails stopped.misses }

-- damage was found, and the search for the next good record stopped
pub search_stopped : (bytes : List ℕ) (at : ℕ) (g f : Fault) (damage : Option Fault) (was w : Shown) → IsWalkBefore bytes was at damage → Shows bytes w
    → ReadsAs head_fault at (drop at (near bytes)) [] (Some g) → (f.kind ≡ kinds.Read) ⊎ (f.kind ≡ kinds.Memory) → IsSearchStopped bytes (at + 1) f
    → IsWalkBefore bytes w at damage × (IsStop bytes at f × (at ≡ at))
search_stopped bytes at g f damage was w before shows found fails stopped =
    (record { shows = shows; within = before.within; found = before.found }, (search_stop bytes at g f found fails stopped, refl))

pub inside_of : (bytes : List ℕ) (at : ℕ) (f : Fault) → at ≤ length (near bytes) → ReadsAs head_fault at (drop at (near bytes)) [] (Some f) → at + 1 ≤ length (near bytes)
inside_of bytes at f low found = found_inside bytes at f low found

abbrev IsPieceOf : ℕ → ℕ → ℕ → Option Piece → Type 0
IsPieceOf at count len piece = (piece ≡ None → count ≡ 0) × IfSome piece (λ p. (p ≡ Records at len count) × (0 < count))

run_or_end : (bytes : List ℕ) (at count len : ℕ) (piece : Option Piece) → at < max_archive → at ≤ length (near bytes) → IsRun at (drop at (near bytes)) count len None
    → (count ≡ 0 → len ≡ 0) → (piece ≡ None → count ≡ 0) → IfSome piece (λ p. (p ≡ Records at len count) × (0 < count)) → GivesOf bytes at (at + len) None (Ok piece)
run_or_end bytes at count len None below low run empty none some =
    let end = run_at_end bytes at count len low run in
    let zero : len ≡ 0 = empty (none refl) in
    let size = near_size bytes in
    let short : length bytes ≤ max_archive = omega (arith, end, zero, below, size) in
    (omega (arith, end, zero, ap length (near_all bytes short)), refl)
run_or_end bytes at count len (Some piece) below low run empty none (is, some) =
    let P : Piece → Type 0 = λ p. IsPieceAt bytes at (at + len) None p in
    subst P (sym is) (run_to_end bytes at count len None some run)

-- a run was read to the end of the bytes
pub end_given : (bytes : List ℕ) (at count len : ℕ) (end failure : Option Fault) (w : Shown) (piece : Option Piece) → failure ≡ None → end ≡ None → Shows bytes w
    → at < max_archive → at ≤ length (near bytes) → IsRead at bytes count len end → (count ≡ 0 → len ≡ 0) → (piece ≡ None → count ≡ 0)
    → IfSome piece (λ p. (p ≡ Records at len count) × (0 < count)) → IsWalkBefore bytes w (at + len) None × GivesOf bytes at (at + len) failure (Ok piece)
end_given bytes at count len end failure w piece none is shows below low read empty absent some =
    let R : Option Fault → Type 0 = λ o. IsRead at bytes count len o in
    let run = subst R is read in
    let P : Option Fault → Type 0 = λ o. GivesOf bytes at (at + len) o (Ok piece) in (
      record { shows = shows; within = run_inside bytes at count len None low run; found = tt },
      subst P (sym none) (run_or_end bytes at count len piece below low run empty absent some),
    )

-- a run was read to a failure
fails_by : (bytes : List ℕ) (at count len : ℕ) (f : Fault) → (f.kind ≡ kinds.Read) ⊎ (f.kind ≡ kinds.Memory) → RunEndsBy f.kind at bytes count len f
    → Fails bytes at count len f f.kind
fails_by bytes at count len f is ends =
    ⊎_elim (λ read. read_fails bytes at count len f read ends) (λ memory. memory_fails bytes at count len f memory ends) is

reach_inside : (bytes : List ℕ) (at count len : ℕ) (f : Fault) → (f.kind ≡ kinds.Read) ⊎ (f.kind ≡ kinds.Memory) → at ≤ length (near bytes)
    → RunEndsBy f.kind at bytes count len f → at + len ≤ length (near bytes)
reach_inside bytes at count len f is low ends =
    let P : FaultKind → Type 0 = λ kind. RunEndsBy kind at bytes count len f in
    ⊎_elim
    (λ read.
    let parts : RunEndsBy kinds.Read at bytes count len f = subst P read ends in
    let (found, run, unread) = parts in
    front_inside bytes at count len f.offset found low run)
    (λ memory.
    let parts : RunEndsBy kinds.Memory at bytes count len f = subst P memory ends in
    let (offset, within, run) = parts in
    omega (arith, offset, within))
    is

pub failure_given : (bytes : List ℕ) (at count len : ℕ) (end : Option Fault) (f : Fault) (w : Shown) → end ≡ Some f → (f.kind ≡ kinds.Read) ⊎ (f.kind ≡ kinds.Memory)
    → Shows bytes w → at ≤ length (near bytes) → IsRead at bytes count len end → IsWalkBefore bytes w (at + len) None × Fails bytes at count len f f.kind
failure_given bytes at count len end f w is fails shows low read =
    let R : Option Fault → Type 0 = λ o. IsRead at bytes count len o in
    let ends : RunEndsBy f.kind at bytes count len f = subst R is read in
    (record { shows = shows; within = reach_inside bytes at count len f fails low ends; found = tt }, fails_by bytes at count len f fails ends)

-- a read failed or memory ran out for the first record
pub failure_here : (bytes : List ℕ) (at count len : ℕ) (f : Fault) → len ≡ 0 → Fails bytes at count len f f.kind → IsStop bytes at f × (at + len ≡ at)
failure_here bytes at count len f none (found, run, stops) =
    let here : at + len ≡ at = omega (arith, none) in
    let P : ℕ → Type 0 = λ n. StopsBy f.kind bytes n n f in
    (stop_here bytes at f (subst P here stops), here)

-- a run was read to damage
pub found_given : (bytes : List ℕ) (at count len : ℕ) (end failure : Option Fault) (f : Fault) (w : Shown) → end ≡ Some f → failure ≡ None → f.kind ≢ kinds.Read
    → f.kind ≢ kinds.Memory → Shows bytes w → at ≤ length (near bytes) → IsRead at bytes count len end
    → IsWalkBefore bytes w (at + len) (Some f) × IsRun at (drop at (near bytes)) count len (Some f)
found_given bytes at count len end failure f w is none no_read no_memory shows low read =
    let R : Option Fault → Type 0 = λ o. IsRead at bytes count len o in
    let run = run_to_damage bytes at count len f f.kind no_read no_memory (subst R is read) in (
      record {
        shows = shows;
        within = run_inside bytes at count len (Some f) low run;
        found = found_after at (near bytes) count len f run;
      },
      run,
    )

-- ---- how it was read

below_near : (old new : SeenSource) → AsksOnly (λ q. q < max_archive) old new → AsksOnly (λ q. q ≤ max_archive) old new
below_near old new asks = λ unwatched. asks (λ q low. unwatched q (omega (arith, low)))

pub advances_by : {X : Type 0} (n : ℕ) (answer : Result X Fault) (w now : Shown) (old new : SeenSource) (at after : ℕ) (failure : Option Fault)
    (given : Result (Option Piece) Fault) → ReadsBy n answer w now old new → failures_after answer old.faults ≡ faults_after_stop failure old.faults
    → IfSome failure (λ f. f.kind ≡ kinds.Read → f.offset ≡ new.asked) → GoesBy at after failure given → after ≤ max_archive → Advances old new at after failure given
advances_by n answer w now old new at after failure given reads same asked goes limit = record {
  kept = reads.kept;
  watched = reads.watched;
  cause = reads.cause ∙ same;
  near = below_near old new reads.near;
  asked = asked;
  goes = goes;
  limit = limit;
}

-- at which offset a read failed
pub asked_none : (failure : Option Fault) (new : SeenSource) → failure ≡ None → IfSome failure (λ f. f.kind ≡ kinds.Read → f.offset ≡ new.asked)
asked_none failure new none = let P : Option Fault → Type 0 = λ o. IfSome o (λ f. f.kind ≡ kinds.Read → f.offset ≡ new.asked) in subst P (sym none) tt

pub asked_some : (end : Option Fault) (f : Fault) (new : SeenSource) → end ≡ Some f → IfSome end (λ e. e.kind ≡ kinds.Read → e.offset ≡ new.asked) → f.kind ≡ kinds.Read → f.offset ≡ new.asked
asked_some end f new is asked = let P : Option Fault → Type 0 = λ o. IfSome o (λ e. e.kind ≡ kinds.Read → e.offset ≡ new.asked) in subst P is asked

-- a quiet part before it
pub advances_after : {X : Type 0} (n : ℕ) (answer : Result X Fault) (w now : Shown) (old mid new : SeenSource) (at after : ℕ) (failure : Option Fault)
    (given : Result (Option Piece) Fault) → ReadsBy n answer w now old mid → failures_after answer old.faults ≡ old.faults → Advances mid new at after failure given
    → Advances old new at after failure given
advances_after n answer w now old mid new at after failure given reads same next = record {
  kept = next.kept ∙ reads.kept;
  watched = next.watched ∙ reads.watched;
  cause = next.cause ∙ ap (faults_after_stop failure) (reads.cause ∙ same);
  near = λ unwatched.
      let P : (ℕ → Bool) → Type 0 = λ watches. (q : ℕ) → q ≤ max_archive → watches q ≡ false in
      next.near (subst P (sym reads.watched) unwatched) ∙ below_near old mid reads.near unwatched;
  asked = next.asked;
  goes = next.goes;
  limit = next.limit;
}

-- ---- a call

-- a reader gives one more answer, or says its failure again
pub next_gives : (bytes : List ℕ) (at after : ℕ) (was now : Option Fault) (pieces : List Piece) (answer : Result (Option Piece) Fault)
    → (was ≡ None → GivesOf bytes at after now answer) → ((f : Fault) → was ≡ Some f → answer ≡ Err f)
    → AreGiven bytes at was pieces → GivesMore bytes after now pieces answer
next_gives bytes at after None now pieces answer gives again given = gives_more bytes at after now pieces answer given (gives refl)
next_gives bytes at after (Some f) now pieces answer gives again given =
    let P : Result (Option Piece) Fault → Type 0 = λ a. GivesMore bytes after now pieces a in
    subst P (sym (again f refl)) given

-- ---- what a run gives

pub goes_some : (p : Piece) (at count len : ℕ) (failure : Option Fault) → p ≡ Records at len count → 0 < count → count ≤ len → GoesBy at (at + len) failure (Ok (Some p))
goes_some p at count len failure is some few =
    let P : Piece → Type 0 = λ q. GoesBy at (at + len) failure (Ok (Some q)) in
    subst P (sym is) (refl, refl, omega (arith, some, few), few)

pub goes_by : (piece : Option Piece) (at count len : ℕ) (failure : Option Fault) → failure ≡ None → (count ≡ 0 → len ≡ 0) → (piece ≡ None → count ≡ 0) → IfSome piece (λ p. (p ≡ Records at len count) × (0 < count)) → count ≤ len
    → GoesBy at (at + len) failure (Ok piece)
goes_by None at count len failure none empty absent some few = (let e : at + len ≡ at = omega (arith, empty (absent refl)) in e, none)
goes_by (Some piece) at count len failure none empty absent (is, some) few = goes_some piece at count len failure is some few

pub quiet_end : (end failure : Option Fault) (n : ℕ) → end ≡ None → failure ≡ None → failures_after (answer_of end) n ≡ faults_after_stop failure n
quiet_end end failure n is none = ap (λ (e : Option Fault). failures_after (answer_of e) n) is ∙ sym (ap (λ o. faults_after_stop o n) none)

pub failed_end : (end : Option Fault) (f : Fault) (n : ℕ) → end ≡ Some f → failures_after (answer_of end) n ≡ faults_after_stop (Some f) n
failed_end end f n is = ap (λ (e : Option Fault). failures_after (answer_of e) n) is

pub quiet_found : (end failure : Option Fault) (f : Fault) (n : ℕ) → end ≡ Some f → f.kind ≢ kinds.Read → failure ≡ None → failures_after (answer_of end) n ≡ faults_after_stop failure n
quiet_found end failure f n is other none =
    failed_end end f n is ∙ no_fault_by f.kind n other ∙ sym (ap (λ o. faults_after_stop o n) none)

pub failure_piece : (bytes : List ℕ) (at count len : ℕ) (f : Fault) (p : Piece) → p ≡ Records at len count → 0 < count → Fails bytes at count len f f.kind
    → IsPieceAt bytes at (at + len) (Some f) p
failure_piece bytes at count len f p is some fails =
    let P : Piece → Type 0 = λ q. IsPieceAt bytes at (at + len) (Some f) q in
    subst P (sym is) (run_to_failure bytes at count len f some fails)

pub found_piece : (bytes : List ℕ) (at count len : ℕ) (f : Fault) (failure : Option Fault) (p : Piece) → failure ≡ None → p ≡ Records at len count → 0 < count
    → IsRun at (drop at (near bytes)) count len (Some f) → IsPieceAt bytes at (at + len) failure p
found_piece bytes at count len f failure p none is some run =
    let P : Piece → Type 0 = λ q. IsPieceAt bytes at (at + len) None q in
    let Q : Option Fault → Type 0 = λ o. IsPieceAt bytes at (at + len) o p in
    subst Q (sym none) (subst P (sym is) (run_to_end bytes at count len (Some f) some run))

-- ---- how often it was read

module _ (bytes : List ℕ) (at was now : ℕ) (old new : SeenSource) where
  pub damage_few : (next tries : ℕ) (fault : Fault) → new.reads + was ≤ old.reads + now + 54 * tries → tries ≤ lines_in (drop (at + 1) (near bytes)) (next - (at + 1)) + 1 → at < next
      → ReadsFew bytes at (Ok (Some (Damage at (next - at) fault))) 1 was now old new
  damage_few next tries fault bound few later =
      let same : at + (next - at) ≡ next = omega (arith, later) in
      let P : ℕ → Type 0 = λ end. new.reads + was ≤ old.reads + now + 54 * (lines_between bytes at end + 1) in
      subst P (sym same) (omega (arith, bound, few))

  pub failure_few : (tries : ℕ) (f : Fault) → new.reads + was ≤ old.reads + now + 54 * tries → tries ≤ lines_in (drop (at + 1) (near bytes)) (f.offset - (at + 1)) + 1
      → ReadsFew bytes at (Err f) 1 was now old new
  failure_few tries f bound few = omega (arith, bound, few)

  pub run_few : (offset count len : ℕ) (piece : Piece) → new.reads + was ≤ old.reads + now + 54 * (count + 1) → piece ≡ Records offset len count → ReadsFew bytes at (Ok (Some piece)) 2 was now old new
  run_few offset count len piece bound is =
      let P : Piece → Type 0 = λ p. ReadsFew bytes at (Ok (Some p)) 2 was now old new in
      subst P (sym is) (omega (arith, bound))

  pub end_few : (offset count len : ℕ) (piece : Option Piece) → new.reads + was ≤ old.reads + now + 54 * (count + 1) → (piece ≡ None → count ≡ 0) → IfSome piece (λ p. (p ≡ Records offset len count) × (0 < count))
      → ReadsFew bytes at (Ok piece) 2 was now old new
  end_few offset count len None bound none some = let zero : count ≡ 0 = none refl in omega (arith, bound, zero)
  end_few offset count len (Some piece) bound none some = run_few offset count len piece bound some.0

-- an answer about the same place, after a run of no records was looked for
pub few_after : (bytes : List ℕ) (at there count was mid now : ℕ) (answer : Result (Option Piece) Fault) (old between new : SeenSource) → between.reads + was ≤ old.reads + mid + 54 * (count + 1) → count ≡ 0 → there ≡ at
    → ReadsFew bytes there answer 1 mid now between new → ReadsFew bytes at answer 2 was now old new
few_after bytes at there count was mid now answer old between new first none same then =
    let P : ℕ → Type 0 = λ k. ReadsFew bytes k answer 1 mid now between new in
    let here = subst P same then in
    omega (arith, first, none, here)

-- a failure that was found where a run was looked for
pub failed_few : (bytes : List ℕ) (at count was now : ℕ) (f : Fault) (old new : SeenSource) → new.reads + was ≤ old.reads + now + 54 * (count + 1) → count ≡ 0 → ReadsFew bytes at (Err f) 2 was now old new
failed_few bytes at count was now f old new bound none = omega (arith, bound, none)

pub fewer : (bytes : List ℕ) (at was now : ℕ) (answer : Result (Option Piece) Fault) (old new : SeenSource) → ReadsFew bytes at answer 1 was now old new → ReadsFew bytes at answer 2 was now old new
fewer bytes at was now answer old new few = omega (arith, few)
