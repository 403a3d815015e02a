use Rattle.std.proofs.Common.{rules, ◌++◌, ◌∙◌, ap}
use Rattle.std.proofs.lemmas.Result.{IfErr-weaker, on_ok_weaker}
use Rattle.std.specs.List.{filter}
use Rattle.warc_frame.proofs.LawLemmas.{same_out, same_staged}
use Rattle.warc_record.specs.Findings.{Digest, IdUsed, once}
use Rattle.warc_checking.specs.Lines.{record_lines}
use Rattle.warc_checking.specs.OwnFindings.{all_found, is_between}
use Rattle.warc_checking.proofs.OwnFindingLemmas.{both_lines, both_parts, last_texts}
use Rattle.warc_checking.proofs.finding_list.put_found.Goals as goal

pub returns-in_err-put_range_and : goal.returns-in_err-put_range_and
returns-in_err-put_range_and g c = record {
  out = search rules;
  cut = λ start output is.
      let o = all_found c.args.names.now c.args.findings.now in
      let first = filter (is_between 0 4) o ++ once Digest c.args.facts.bad_digest in
      let second = filter (is_between 4 6) o ++ once IdUsed c.args.facts.used_id in
      let last = filter (is_between 6 255) o in
      let cut = c.went_out_of_longer.ensures start _ _ (record_lines c.args.position (second ++ last)) _ (c.in_err-put_range_and.ensures.cut start output is) in
      let whole = same_out (last_texts c.args.position first second last output ∙ ap (λ l. output ++ record_lines c.args.position l) (both_parts o c.args.facts.bad_digest c.args.facts.used_id)) cut in
      search rules;
  cause = search rules;
  left = search rules;
}

pub returns-in_err-put_range_and-2 : goal.returns-in_err-put_range_and-2
returns-in_err-put_range_and-2 g c = record {
  out = search rules;
  cut = λ start output is.
      let o = all_found c.args.names.now c.args.findings.now in
      let first = c.in_ok-put_range_and.ensures.out start output is in
      let cut = c.went_out_of_longer.ensures start _ _ (record_lines c.args.position (filter (is_between 6 255) o)) _ (c.in_err-put_range_and-2.ensures.cut start _ first) in
      let whole = same_out (both_lines c.args.position o c.args.facts.bad_digest c.args.facts.used_id output) cut in
      search rules;
  cause = search rules;
  left = search rules;
}

pub returns : goal.returns
returns g c = record {
  out = λ start output is.
      let text = both_lines c.args.position (all_found c.args.names.now c.args.findings.now) c.args.facts.bad_digest c.args.facts.used_id output in
      on_ok_weaker c.put_range.result (same_staged text)
      (c.put_range.ensures.out start _ (c.in_ok-put_range_and-2.ensures.out start _ (c.in_ok-put_range_and.ensures.out start output is)));
  cut = λ start output is.
      let text = both_lines c.args.position (all_found c.args.names.now c.args.findings.now) c.args.facts.bad_digest c.args.facts.used_id output in
      IfErr-weaker c.put_range.result _ _ (λ e out. same_out text out)
      (c.put_range.ensures.cut start _ (c.in_ok-put_range_and-2.ensures.out start _ (c.in_ok-put_range_and.ensures.out start output is)));
  cause = search rules;
  left = search rules;
}
