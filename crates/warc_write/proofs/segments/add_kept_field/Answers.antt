use Rattle.std.proofs.Common.{◌++◌, sym, ap, ◌∙◌}
use Rattle.std.proofs.lemmas.Result.{on_ok_weaker}
use Rattle.warc_write.proofs.SplitLemmas.{kept_same, one}
use Rattle.warc_write.proofs.segments.add_kept_field.Goals as goal

pub returns : goal.returns
returns g c =
    let name = c.args.name.now in
    let value = c.args.value.now in
    let whole = kept_same c.args.len name value (sym c.if-is_named.ensures) (sym c.if-is_named-2.ensures) in
    on_ok_weaker c.add_copy.result
    (λ e. e ∙ ap (λ l. c.args.fields.now ++ l) (ap (λ n. one n c.bytes-3.result.now) c.bytes-2.ensures.text ∙ ap (one name) c.bytes-3.ensures.text ∙ sym whole))
    c.add_copy.ensures
