-- The texts of rows, one more at a time, and the fault after them.
use Rattle.std.proofs.Common.{◌≡◌, inr, ℕ, List, [], ◌∷◌, ◌++◌, refl, sym, ap, ◌∙◌, Option, Some, None}
use Rattle.warc_frame.specs.Seen.{SeenSource}
use Rattle.warc_frame.specs.declared.fault.Fault.{Fault}
use Rattle.warc_reading.specs.Archive.{IsArchiveOf}
use Rattle.warc_reading.specs.Opening.{Opens, faults_after}
use Rattle.warc_reading.specs.Row.{Row}
use Rattle.warc.specs.Front.{refused_by}
use Rattle.warc_lent.proofs.TextLemmas.{refused_for}
use Rattle.warc_page.specs.Shown.{StopsFor}
use Rattle.std.proofs.lemmas.List.{append-nil}
use Rattle.std.proofs.lemmas.List.Concat.{flat_map-append}
use Rattle.std.specs.List.{flat_map}

-- the texts of one more element
pub texts_next : {X A : Type 0} (f : X → List A) (xs : List X) (x : X) → flat_map f xs ++ f x ≡ flat_map f (xs ++ x ∷ [])
texts_next f xs x = sym (flat_map-append f xs (x ∷ []) ∙ ap (λ l. flat_map f xs ++ l) (append-nil (f x)))

-- the fault after a front, of bytes that a source without failures holds
pub stops_for : (bytes : List ℕ) (old new : SeenSource) (stop : Option Fault) (rows : List Row) → old.holds ≡ Some bytes → new.faults ≡ 0 → old.faults ≡ 0 → Opens IsArchiveOf old new (refused_by stop rows)
    → StopsFor bytes stop
stops_for bytes old new None rows held sound before opens = tt
stops_for bytes old new (Some f) rows held sound before opens =
    inr (f, refl, refused_for f.kind bytes old new f (sym sound ∙ opens.reads.cause ∙ ap (faults_after f.kind) before) (opens.refused bytes held))
