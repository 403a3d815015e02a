use Rattle.std.proofs.Common.{◌∙◌, ap, sym, ℕ, Option}
use Rattle.std.specs.Prelude.{ok_or}
use Rattle.warc_index.specs.declared.unfound.Unfound.TheVariants.{NoReference}
use Rattle.warc_index.proofs.KeptLemmas.{placed_of}
use Rattle.warc_index.proofs.LinkedLemmas.{none_without_entry, target_there}
use Rattle.warc_index.proofs.index.RecordIndex+Order+A+A.same_payload.Goals as goal

pub returns-in_default : goal.returns-in_default
returns-in_default g c all kept revisit at kind stated instant has is =
    ap (λ (o : Option ℕ). ok_or o NoReference) (sym (none_without_entry all _ _ c.args.position revisit (placed_of all _
    _ _ _ c.args.self.now c.self.view_is kept) at kind c.in_default.ensures.none))

pub returns-in-Some-latest_of_payload : goal.returns-in-Some-latest_of_payload
returns-in-Some-latest_of_payload g c all kept revisit at kind stated instant has is =
    let placed = placed_of all _ _ _ _ c.args.self.now c.self.view_is kept in
    ap (λ (o : Option ℕ). ok_or o NoReference) (sym c.in-Some-latest_of_payload.is
    ∙ c.latest_of_payload.ensures all placed revisit (target_there all _ _ c.args.position c.in-Some.target.now revisit
    placed at c.in-Some.ensures.some) stated instant has is)

pub returns-in-None : goal.returns-in-None
returns-in-None g c all kept revisit at kind stated instant has is =
    let placed = placed_of all _ _ _ _ c.args.self.now c.self.view_is kept in
    ap (λ (o : Option ℕ). ok_or o NoReference) (sym c.in-None.is
    ∙ c.latest_of_payload.ensures all placed revisit (target_there all _ _ c.args.position c.in-Some.target.now revisit
    placed at c.in-Some.ensures.some) stated instant has is)
