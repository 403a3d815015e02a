use Rattle.std.proofs.Common.{◌∙◌, ap, sym, ℕ, Option}
use Rattle.std.specs.Prelude.{ok_or}
use Rattle.warc_index.specs.declared.unfound.Unfound.TheVariants.{Unresolved}
use Rattle.warc_index.proofs.KeptLemmas.{placed_of}
use Rattle.warc_index.proofs.index.RecordIndex+Order+A+A.named_pair.Goals as goal

pub returns-in-Some : goal.returns-in-Some
returns-in-Some g c all kept instant is =
    ap (λ (o : Option ℕ). ok_or o Unresolved) (sym c.in-Some.is ∙ c.first_of_pair.ensures all (placed_of all _ _ _ _
    c.args.self.now c.self.view_is kept) instant is)

pub returns-in-None : goal.returns-in-None
returns-in-None g c all kept instant is =
    ap (λ (o : Option ℕ). ok_or o Unresolved) (sym c.in-None.is ∙ c.first_of_pair.ensures all (placed_of all _ _ _ _
    c.args.self.now c.self.view_is kept) instant is)
