-- Why a good front ends, over a source that never fails.
use Rattle.std.proofs.Common.{◌≡◌, ◌⊎◌, ℕ, List, Option, Some, None, IfSome, sym, ap, ◌∙◌}
use Rattle.warc_frame.specs.Seen.{SeenSource}
use Rattle.warc_frame.specs.declared.fault.Fault.{Fault}
use Rattle.warc_frame.specs.declared.fault.FaultKind.TheVariants.{Memory}
use Rattle.warc_reading.specs.Archive.{IsArchiveOf, IsFaultOf}
use Rattle.warc_reading.specs.Opening.{Opens, faults_after}
use Rattle.warc_reading.specs.Row.{Row}
use Rattle.warc.specs.Front.{refused_by}
use Rattle.warc_lent.proofs.TextLemmas.{refused_for}

pub front_refused : (fault : Option Fault) (rows : List Row) (bytes : List ℕ) (old new : SeenSource) → old.faults ≡ 0 → new.faults ≡ 0
    → old.holds ≡ Some bytes → Opens IsArchiveOf old new (refused_by fault rows)
    → IfSome fault (λ f. (f.kind ≡ Memory) ⊎ IsFaultOf bytes f)
front_refused None rows bytes old new first last held opens = tt
front_refused (Some f) rows bytes old new first last held opens =
    refused_for f.kind bytes old new f (sym last ∙ opens.reads.cause ∙ ap (faults_after f.kind) first) (opens.refused bytes held)
