use Rattle.std.proofs.Common.{sym, ap, take_all, ◌∙◌}
use Rattle.std.specs.List.{flat_map}
use Rattle.std.proofs.lemmas.List.Folds.{flat_map-map}
use Rattle.httparse.specs.Spans.{header_bytes}
use Rattle.warc_payload.specs.Texts.{coding_text_if}
use Rattle.warc_payload.proofs.texts.codings_in.Goals as goal

pub returns : goal.returns
returns g c =
    c.adding.invariant ∙ ap (flat_map (λ s. coding_text_if (header_bytes c.args.text.now s))) (take_all _ _ c.adding-test.false)
    ∙ sym (flat_map-map coding_text_if (header_bytes c.args.text.now) c.args.fields.now)
