use Rattle.std.proofs.Common.{rules}
use Rattle.std.proofs.lemmas.Result.{IfErr-weaker, on_ok_weaker}
use Rattle.std.specs.List.{filter}
use Rattle.warc_frame.proofs.LawLemmas.{same_out, same_staged}
use Rattle.warc_record.specs.Findings.{once, plain_seen}
use Rattle.warc_checking.specs.Lines.{record_lines}
use Rattle.warc_checking.specs.OwnFindings.{all_found, is_between}
use Rattle.warc_checking.proofs.OwnFindingLemmas.{two_texts}
use Rattle.warc_checking.proofs.finding_list.put_range_and.Goals as goal

pub returns-in_err-put_range : goal.returns-in_err-put_range
returns-in_err-put_range g c = record {
  out = search rules;
  cut = λ start output is.
      let range = filter (is_between c.args.numbers.above c.args.numbers.below) (all_found c.args.names.now c.args.findings.now) in
      let one = once (plain_seen c.args.finding) c.args.holds in
      let cut = c.went_out_of_longer.ensures start _ _ (record_lines c.args.position one) _ (c.in_err-put_range.ensures.cut start output is) in
      let whole = same_out (two_texts c.args.position range one output) cut in
      search rules;
  cause = search rules;
  left = search rules;
}

pub returns : goal.returns
returns g c =
    let range = filter (is_between c.args.numbers.above c.args.numbers.below) (all_found c.args.names.now c.args.findings.now) in
    let one = once (plain_seen c.args.finding) c.args.holds in
    record {
      out = λ start output is.
          on_ok_weaker c.put_once.result (same_staged (two_texts c.args.position range one output))
          (c.put_once.ensures.out start _ (c.in_ok-put_range.ensures.out start output is));
      cut = λ start output is.
          IfErr-weaker c.put_once.result _ _ (λ e out. same_out (two_texts c.args.position range one output) out)
          (c.put_once.ensures.cut start _ (c.in_ok-put_range.ensures.out start output is));
      cause = search rules;
      left = search rules;
    }
