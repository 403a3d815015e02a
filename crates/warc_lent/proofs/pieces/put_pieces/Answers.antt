use Rattle.std.proofs.Common.{Option, Some, ap, inr, refl, subst, ◌∙◌}
use Rattle.std.specs.Prelude.{option_map}
use Rattle.warc_frame.specs.declared.fault.Fault.{Fault}
use Rattle.warc_lent.specs.Pieces.{PutsPieceNumbers}
use Rattle.warc_lent.specs.declared.problem.Problem.TheVariants as problems
use Rattle.warc_lent.proofs.PieceLemmas.{none_put, walk_put}
use Rattle.warc_lent.proofs.pieces.put_pieces.Goals as goal

pub returns-in-Err-clause-puts : goal.returns-in-Err-clause-puts
returns-in-Err-clause-puts g c = inr (none_put c.in-Err.fault c.args.out.now c.in-Err.ensures.refused.0)

pub returns-in-None-clause-puts : goal.returns-in-None-clause-puts
returns-in-None-clause-puts g c =
    let P : Option Fault → Type 0 = λ o. PutsPieceNumbers c.args.bytes.now c.put_walk-count.result.0 (option_map (λ f. problems.Fault f) o) c.args.out.now c.put_walk-count.new.out in
    subst P c.in-None.is (
    walk_put c.args.bytes.now _ _ c.put_walk-count.result.0 c.put_walk-count.result.1 c.args.out.now c.put_walk-count.new.out
    (ap Some (ap (λ r. r.source.bytes) c.in-Ok.ensures.begins ∙ c.new.ensures.bytes)) refl refl c.put_walk-count.ensures.put)

pub returns-clause-puts : goal.returns-clause-puts
returns-clause-puts g c =
    let P : Option Fault → Type 0 = λ o. PutsPieceNumbers c.args.bytes.now c.put_walk-count.result.0 (option_map (λ f. problems.Fault f) o) c.args.out.now c.put_walk-count.new.out in
    subst P c.in-Some.is (
    walk_put c.args.bytes.now _ _ c.put_walk-count.result.0 c.put_walk-count.result.1 c.args.out.now c.put_walk-count.new.out
    (ap Some (ap (λ r. r.source.bytes) c.in-Ok.ensures.begins ∙ c.new.ensures.bytes)) refl refl c.put_walk-count.ensures.put)
