use Rattle.std.proofs.Common.{sym, ◌∙◌}
use Rattle.warc_frame.proofs.EffectLemmas.{fails_more}
use Rattle.warc_rewrite.proofs.TakenLemmas.{head_has, head_is_present, same_row}
use Rattle.warc_rewrite.proofs.closure.head_at.Goals as goal

pub returns : goal.returns
returns g c =
    let at = sym c.get.ensures ∙ c.in-Some.is in
    record {
      reported = λ bytes held is p there.
          c.reread_good.ensures.read bytes held
          (head_has c.head_of_spelled.ensures bytes c.args.rows.now c.args.position c.in-Some.row is p at there);
      reads = λ row here. same_row c.args.rows.now c.args.position c.in-Some.row row at here c.reread_good.ensures.reads;
      fails = fails_more (λ bytes held is. head_is_present c.head_of_spelled.ensures bytes c.args.rows.now c.args.position c.in-Some.row is at)
          c.reread_good.ensures.fails;
    }
