use Rattle.std.proofs.Common.{sym, ap, ◌∙◌}
use Rattle.warc_field.specs.Text.{lower}
use Rattle.warc_quick.proofs.NameLemmas.{no_name, not_this}
use Rattle.warc_quick.proofs.names.naming_of.Goals as goal

pub other_name-requires : goal.other_name-requires
other_name-requires c = no_name c.args.text.now _ c.candidate.ensures c.in_default.is

pub other_name-requires-2 : goal.other_name-requires-2
other_name-requires-2 c =
    not_this c.args.text.now _ c.in-Some.known c.candidate.ensures c.in-Some.is
    (λ same. let hit = c.eq_ignore_ascii_case.ensures.test.1 (same ∙ ap lower (sym (c.as_bytes.ensures.value ∙ c.text.ensures.text))) in cc (hit, c.if-eq_ignore_ascii_case.false))
