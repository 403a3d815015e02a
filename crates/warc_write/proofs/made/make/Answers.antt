use Rattle.std.proofs.Common.{rules, ◌≡◌, ◌≤◌, length, true, false, Ok, sym, ap}
use Rattle.std.proofs.Common.{◌∙◌, arith}
use Rattle.std.proofs.lemmas.Bool.Decides.{nat_tests}
use Rattle.warc_frame.specs.Record.{block_len, max_block}
use Rattle.warc_write.specs.Making.{Plan, fitted, is_block, made_fields}
use Rattle.warc_write.proofs.MakeLemmas.{good_from, made_is, made_len, makes_from, no_block, no_kind}
use Rattle.warc_write.proofs.MakeLemmas.{target_is_value, text_is_value, type_is_name}
use Rattle.warc_write.proofs.made.make.Goals as goal

pub returns-in_default-clause-made : goal.returns-in_default-clause-made
returns-in_default-clause-made g c = no_kind _ (sym c.in_default.ensures)

pub returns-then-block-gt-MAX_BLOCK-clause-made : goal.returns-then-block-gt-MAX_BLOCK-clause-made
returns-then-block-gt-MAX_BLOCK-clause-made g c =
    let past : is_block c.args.block.now ≡ false = (let large = c.if-block-gt-MAX_BLOCK.true in grind (arith, nat_tests)) in
    no_block _ c.in-Some.type_text.now c.in_ok-uuid.uuid (sym c.in-Some.ensures)
    c.in_ok-uuid.ensures.date c.in_ok-uuid.ensures.target c.in_ok-uuid.ensures.id c.in_ok-uuid.ensures.content_type past

pub made_fields-requires-clause-named : goal.made_fields-requires-clause-named
made_fields-requires-clause-named g c = (type_is_name c.args.kind c.in-Some.type_text.now (sym c.in-Some.ensures)).1

pub made_fields-requires-clause-date : goal.made_fields-requires-clause-date
made_fields-requires-clause-date g c = c.date_is_value.ensures c.args.date.now c.in_ok-uuid.ensures.date

pub made_fields-requires-clause-uri : goal.made_fields-requires-clause-uri
made_fields-requires-clause-uri g c = target_is_value c.args.uri.now c.in_ok-uuid.ensures.target

pub made_fields-requires-clause-content_type : goal.made_fields-requires-clause-content_type
made_fields-requires-clause-content_type g c = text_is_value c.args.content_type.now c.in_ok-uuid.ensures.content_type

pub fitting-requires : goal.fitting-requires
fitting-requires g c =
    let plan : Plan = record { kind = c.args.kind; uri = c.args.uri.now; date = c.args.date.now; uuid = c.args.uuid.now; content_type = c.args.content_type.now; block = c.args.block.now } in
    let small : length c.args.block.now ≤ max_block = (let le = c.if-block-gt-MAX_BLOCK.false in search rules) in
    ap block_len c.in_ok-fields.ensures ∙ made_len c.in-Some.type_text.now c.in_ok-uuid.uuid plan small ∙ ap (λ b. Ok (length b)) (sym c.in_ok-from_slice.ensures.items)

pub returns-clause-made : goal.returns-clause-made
returns-clause-made g c =
    let plan : Plan = record { kind = c.args.kind; uri = c.args.uri.now; date = c.args.date.now; uuid = c.args.uuid.now; content_type = c.args.content_type.now; block = c.args.block.now } in
    let whole : is_block c.args.block.now ≡ true = (let small = c.if-block-gt-MAX_BLOCK.false in grind (arith, nat_tests)) in
    let fields : c.in_ok-fields.fields ≡ made_fields c.in-Some.type_text.now c.in_ok-uuid.uuid plan = c.in_ok-fields.ensures in
    let parts = ap (λ fs. fitted fs c.in_ok-from_slice.field-0.items) fields ∙ ap (fitted (made_fields c.in-Some.type_text.now c.in_ok-uuid.uuid plan)) c.in_ok-from_slice.ensures.items in
    makes_from c.fitting.result _ (c.fitting.ensures.made ∙ parts
    ∙ sym (made_is plan c.in-Some.type_text.now c.in_ok-uuid.uuid (sym c.in-Some.ensures)
    c.in_ok-uuid.ensures.date c.in_ok-uuid.ensures.target c.in_ok-uuid.ensures.id c.in_ok-uuid.ensures.content_type whole))

pub returns-clause-good : goal.returns-clause-good
returns-clause-good g c =
    let plan : Plan = record { kind = c.args.kind; uri = c.args.uri.now; date = c.args.date.now; uuid = c.args.uuid.now; content_type = c.args.content_type.now; block = c.args.block.now } in
    good_from plan c.in-Some.type_text.now c.in_ok-uuid.uuid c.in_ok-fields.fields c.in_ok-from_slice.field-0.items c.fitting.result (sym c.in-Some.ensures)
    c.in_ok-uuid.ensures.date
    c.in_ok-fields.ensures c.in_ok-from_slice.ensures.items c.fitting.ensures.made c.fitting.ensures.framed
