use Rattle.std.proofs.Common.{◌≡◌, ◌∙◌, ◌<◌, ℕ, Option, None, Some, length, List, sym}
use Rattle.std.specs.Prelude.{IfSome}
use Rattle.warc_index.specs.Captures.{Indexed}
use Rattle.warc_index.specs.Referents.{next_of}
use Rattle.warc_index.proofs.ChainLemmas.{next_found, none_found}
use Rattle.warc_index.proofs.LoopLemmas.{next_within}
use Rattle.warc_index.proofs.index.RecordIndex+Order+A+A.referent.Goals as goal

pub returns-in-Ok-clause-next : goal.returns-in-Ok-clause-next
returns-in-Ok-clause-next g c all kept =
    next_found all c.args.position c.in-Ok.next (sym (c.next.ensures all kept) ∙ c.in-Ok.is)

pub returns-in-Err-clause-next : goal.returns-in-Err-clause-next
returns-in-Err-clause-next g c all kept =
    none_found all c.args.position c.in-Err.field-0 (sym (c.next.ensures all kept) ∙ c.in-Err.is)

within : (all : List Indexed) (p : ℕ) (next : Option ℕ) → next ≡ next_of all p → IfSome next (λ q. q < length all)
within all p None e = tt
within all p (Some q) e = next_within all p q (sym e)

pub returns-in-Ok-clause-within : goal.returns-in-Ok-clause-within
returns-in-Ok-clause-within g c all kept =
    within all c.args.position c.in-Ok.next
    (next_found all c.args.position c.in-Ok.next (sym (c.next.ensures all kept) ∙ c.in-Ok.is))
