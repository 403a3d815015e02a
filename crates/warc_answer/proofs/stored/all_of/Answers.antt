use Rattle.std.proofs.Common.{refl, ap, ◌∙◌, arith}
use Rattle.warc_payload.specs.Texts.{media_type}
use Rattle.warc_answer.proofs.stored.all_of.Goals as goal

pub returns-in-Ok-clause-seen : goal.returns-in-Ok-clause-seen
returns-in-Ok-clause-seen g c = λ bytes fields own. (
  record {
    status_is = refl;
    media_type_is = c.in-Ok.ensures.items ∙ (c.media_type.ensures ∙ ap media_type own);
    codings_are = c.new.ensures.items;
    coded_is = refl;
    head_len_is = refl;
  },
  c.any_truncated.ensures,
  omega (arith, c.total.ensures),
)
