use Rattle.std.proofs.Common.{rules, ◌+◌, drop, map, ◌∙◌, ap, ◌++◌}
use Rattle.std.specs.List.{filter}
use Rattle.warc_checking.specs.Lines.{record_lines}
use Rattle.warc_checking.specs.OwnFindings.{finding_in, is_between}
use Rattle.warc_frame.specs.declared.field_name.FieldName.TheVariants.{«Type»}
use Rattle.warc_record.specs.declared.finding_sink.PlainFinding.TheVariants.{Absent}
use Rattle.warc_checking.specs.declared.finding_list.PackedFinding.{PackedFinding}
use Rattle.warc_checking.specs.declared.finding_list.PackedFinding.TheVariants.{Plain}
use Rattle.warc_frame.proofs.LawLemmas.{same_out, same_staged}
use Rattle.warc_checking.proofs.OwnFindingLemmas.{reported_more, reported_rest}
use Rattle.warc_checking.proofs.finding_list.put_range.Goals as goal

abbrev any : PackedFinding
any = Plain (Absent «Type»)

pub returns-in_err-put_packed : goal.returns-in_err-put_packed
returns-in_err-put_packed g c = record {
  out = search rules;
  cut = λ start output is.
      let seen = finding_in c.args.names.now in
      let test = is_between c.args.numbers.above c.args.numbers.below in
      let findings = c.args.findings.now in
      let i = c.putting.packed-index in
      let rest = record_lines c.args.position (filter test (map seen (drop (i + 1) findings))) in
      let cut = c.went_out_of_longer.ensures start _ _ rest _ (c.in_err-put_packed.ensures.cut start _ (c.putting.invariant.staged start output is)) in
      let more = reported_more seen test c.args.position findings i any output c.putting-test.true in
      let whole = same_out (ap (λ l. l ++ rest) more ∙ reported_rest seen test c.args.position findings (i + 1) output) cut in
      search rules;
  cause = search rules;
  left = search rules;
}

pub putting-preserved : goal.putting-preserved
putting-preserved g c = record {
  staged = λ start output is.
      same_staged (reported_more (finding_in c.args.names.now) (is_between c.args.numbers.above c.args.numbers.below) c.args.position c.args.findings.now c.putting.packed-index any output c.putting-test.true)
      (c.in_ok-put_packed.ensures.out start _ (c.putting.invariant.staged start output is));
  sound = search rules;
}
