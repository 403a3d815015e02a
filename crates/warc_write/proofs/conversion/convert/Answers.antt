use Rattle.std.proofs.Common.{ap, ◌∙◌}
use Rattle.warc_write.specs.Conversion.{converted_fields}
use Rattle.warc_write.proofs.ConversionLemmas.{converted_from, parts_are_framed}
use Rattle.warc_write.proofs.conversion.convert.Goals as goal

pub framed_of-requires : goal.framed_of-requires
framed_of-requires g c =
    parts_are_framed c.args.framed.now c.in_ok-fields.fields c.in_ok-block.block.items c.block.ensures.framed
    (c.in_ok-fields.ensures ∙ ap converted_fields c.fields.ensures.fields) (c.in_ok-block.ensures.items ∙ c.block.ensures.block)

pub returns : goal.returns
returns g c =
    c.framed_of.ensures ∙ converted_from c.args.framed.now c.in_ok-fields.fields c.in_ok-block.block.items
    (c.in_ok-fields.ensures ∙ ap converted_fields c.fields.ensures.fields) (c.in_ok-block.ensures.items ∙ c.block.ensures.block)
