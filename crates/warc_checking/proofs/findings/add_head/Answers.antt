use Rattle.std.proofs.Common.{sym, subst, ap, ◌∙◌}
use Rattle.warc_record.specs.Readings.{digest_wanted}
use Rattle.warc_quick.specs.PlainFindings.{AreFindings, all_plain}
use Rattle.warc_checking.proofs.AmongLemmas.{plain_without_digest}
use Rattle.warc_checking.proofs.JudgingLemmas.{plain_more, same_fields}
use Rattle.warc_checking.proofs.findings.add_head.Goals as goal

pub add_plain-requires : goal.add_plain-requires
add_plain-requires g c =
    let is = c.in-Some.ensures in
    plain_without_digest is.fields c.args.block_len _ is.found_are

pub returns-in-Ok-clause-is : goal.returns-in-Ok-clause-is
returns-in-Ok-clause-is g c = λ r reads good.
    let is = c.in-Some.ensures in
    let same = same_fields c.args.text.now _ _ is.reads reads in (
      sym is.wanted_is ∙ ap digest_wanted same,
      plain_more r.fields c.args.block_len (all_plain c.in-Some.found) c.args.findings.now _
          (subst (λ l. AreFindings l c.args.block_len (all_plain c.in-Some.found)) same is.found_are) c.in-Ok.ensures.ok,
    )
