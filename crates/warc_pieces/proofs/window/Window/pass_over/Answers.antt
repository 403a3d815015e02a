use Rattle.std.proofs.Common.{◌≡◌, ◌≤◌, Bool, Ok, Err, length, refl, sym, ap, ◌∙◌, arith}
use Rattle.warc_frame.specs.declared.fault.Fault.{Fault}
use Rattle.warc_pieces.specs.Pieces.{near}
use Rattle.warc_pieces.specs.Reads.{reads_beside}
use Rattle.warc_pieces.specs.Window.{faults_by}
use Rattle.warc_pieces.proofs.WindowLemmas.{read_then}
use Rattle.warc_pieces.proofs.window.Window.pass_over.Goals as goal

pub returns-then-not-branch-clause-reads : goal.returns-then-not-branch-clause-reads
returns-then-not-branch-clause-reads g c =
    let one : reads_beside (Ok c.in_ok-more.field-0) ≡ 1 = ap (λ (b : Bool). reads_beside (Ok b)) c.if-not-branch.true in
    read_then 0 _ 1 tt _ (Err c.at.result) _ _ _ _ _ _ c.passing.invariant.reads c.in_ok-more.ensures.reads (omega (arith, one)) (λ n. sym (ap (λ (f : Fault). faults_by f.kind n) c.at.ensures))

pub passing-preserved : goal.passing-preserved
passing-preserved g c = record {
  shows = λ bytes held shows.
      let before = c.passing.invariant.shows bytes held shows in
      let there : c.reached-at.result ≤ length (near bytes) = omega (arith, c.reached-at.ensures.is, before.within) in
      c.in_ok-more.ensures.shows bytes (c.passing.invariant.reads.kept ∙ held) before there;
  begin = omega (arith, c.in_ok-more.ensures.begin, c.reached-at.ensures.is, c.reached.ensures.is, c.passing-test.true);
  far = omega (arith, c.passing.invariant.far, c.in_ok-more.ensures.far.1);
  reads =
      let none : reads_beside (Ok c.in_ok-more.field-0) ≡ 0 = ap (λ (b : Bool). reads_beside (Ok b)) c.if-not-branch.false in
      read_then 0 _ 0 tt _ (Ok tt) _ _ _ _ _ _ c.passing.invariant.reads c.in_ok-more.ensures.reads (omega (arith, none)) (λ n. refl);
}
