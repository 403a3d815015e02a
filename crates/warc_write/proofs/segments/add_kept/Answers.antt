use Rattle.std.proofs.Common.{[], ◌∷◌, ◌++◌, ap, ◌∙◌}
use Rattle.warc_write.specs.Splitting.{kept}
use Rattle.warc_write.proofs.SplitLemmas.{kept_more}
use Rattle.warc_write.proofs.segments.add_kept.Goals as goal

pub loop-field-preserved : goal.loop-field-preserved
loop-field-preserved g c =
    c.in_ok-add_kept_field.ensures ∙ ap (λ fs. fs ++ kept c.args.len (c.field-item.result ∷ [])) c.loop-field.invariant
    ∙ kept_more c.args.len c.args.given.now c.args.fields.now c.loop-field.field-index c.field-item.result c.loop-field-test.true c.field-item.is
