use Rattle.std.proofs.Common.{ap, refl, ◌∙◌, ◌++◌, ◌&&◌, map}
use Rattle.warc_record.specs.Findings.{by_table, finding_seen, findings_of, lacks_content_type, has_unknown_profile, once, NoContentType, Profile}
use Rattle.warc_record.specs.Kinds.{is_known}
use Rattle.warc_record.specs.Readings.{reading_of}
use Rattle.warc_record.specs.declared.checks.TableCheck.TheVariants.{Lacks, HasForbidden, Repeats}
use Rattle.warc_record.proofs.FindingLemmas.{assembled}
use Rattle.warc_record.proofs.checks.findings_in.Goals as goal

pub returns : goal.returns
unfolding findings_of
returns g c =
    let pairs = c.args.fields.now in
    let kind = c.kind_in-kind.ensures pairs refl in
    assembled (reading_of pairs) pairs c.args.block_len c.args.facts.bad_digest c.args.facts.used_id _ _ _ _ _ _ _ _ _ _
    (ap (map finding_seen) c.new-found.ensures.items)
    (c.in_ok-add_by_table.ensures pairs refl
    ∙ ap (λ k. map finding_seen c.new-found.result.items ++ by_table Lacks k pairs ++ by_table HasForbidden k pairs ++ by_table Repeats k pairs) kind)
    c.in_ok-add_once.ensures c.in_ok-add_once-2.ensures c.in_ok-add_once-3.ensures
    (c.in_ok-add_of_block.ensures pairs refl kind
    ∙ ap (λ k. map finding_seen c.add_once-3.new.found.items ++ once NoContentType (lacks_content_type k pairs c.args.block_len) ++ once Profile (has_unknown_profile (reading_of pairs) pairs)) kind)
    c.in_ok-add_not_utf8.ensures (c.in_ok-add_of_ids.ensures pairs refl kind)
    (c.has_bad_digest.ensures ∙ ap (λ k. is_known k && c.args.facts.bad_digest) kind) (c.has_bad_segment.ensures pairs refl kind)
