use Rattle.std.proofs.Common.{[], ◌∷◌, ◌++◌, map, codes, ap₂}
use Rattle.warc_judged.specs.Summary.{summary_numbers}
use Rattle.warc_json.specs.Objects.{object_line}
use Rattle.warc_json.specs.Summaries.{json_summary, number_member}
use Rattle.warc_json.proofs.PutLemmas.{sends_same}
use Rattle.warc_json.proofs.summary.write_summary.Goals as goal

pub returns : goal.returns
unfolding json_summary summary_numbers
returns g c =
    let numbers = map number_member (summary_numbers c.args.summary.now) in
    sends_same (ap₂ (λ first last. object_line (numbers ++ (codes "first_date", first) ∷ (codes "last_date", last) ∷ []))
    c.date_value.ensures c.date_value-2.ensures) c.send_object.ensures
