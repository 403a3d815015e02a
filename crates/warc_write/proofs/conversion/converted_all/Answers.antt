use Rattle.std.proofs.Common.{◌≡◌, [], ◌∷◌, ◌++◌, take, ap, ◌∙◌}
use Rattle.warc_field.specs.Area.{Pair}
use Rattle.warc_write.specs.Conversion.{converted_field, converted_fields}
use Rattle.warc_write.proofs.ConversionLemmas.{converted_more}
use Rattle.warc_write.proofs.conversion.converted_all.Goals as goal

pub loop-field-preserved : goal.loop-field-preserved
loop-field-preserved g c =
    let i = c.loop-field.field-index in
    let fields = c.args.fields.now in
    let field = c.field-item.result in
    let name : c.in_ok-name.name ≡ field.0 = c.in_ok-name.ensures.value ∙ c.bytes.ensures.text in
    let pair : ◌≡◌ {A = Pair} (c.in_ok-name.name, c.in_ok-value.value) (converted_field field) =
    ap (λ n. (n, c.in_ok-value.value)) name ∙ c.in_ok-value.ensures in
    c.in_ok-push.ensures.ok ∙ ap (λ l. l ++ (c.in_ok-name.name, c.in_ok-value.value) ∷ []) c.loop-field.invariant
    ∙ ap (λ (p : Pair). converted_fields (take i fields) ++ p ∷ []) pair ∙ converted_more fields i field c.loop-field-test.true c.field-item.is
