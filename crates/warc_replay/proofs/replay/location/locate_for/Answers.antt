use Rattle.std.proofs.Common.{refl, sym, ◌∙◌}
use Rattle.warc_answer.specs.Answers.{path_for}
use Rattle.warc_reading.specs.Archive.{contents}
use Rattle.warc_replay.proofs.LocatingLemmas.{keeps_same}
use Rattle.warc_replay.proofs.ReplayLemmas.{path_by_index, reads_nothing}
use Rattle.warc_replay.proofs.replay.location.locate_for.Goals as goal

pub returns-in-Ok : goal.returns-in-Ok
returns-in-Ok g c =
    c.locate_on.ensures (λ records. path_for records c.args.uri.now c.args.moment.now) (record {
      is = λ bytes is are. sym (path_by_index is.are.records c.args.uri.now c.args.moment.now) ∙ sym (c.in-Ok.ensures is.are.records are);
      ends = λ bytes is are. (c.paths_end_inside.ensures (contents is.are.records)).0 c.args.uri.now c.args.moment.now;
    })

pub returns-in-Err : goal.returns-in-Err
returns-in-Err g c = record {
  held = λ bytes held is are. record {
    located = λ reports. (
      (c.reasons_are_answers.ensures (contents is.are.records) _).0 c.in-Err.unfound
          (sym (path_by_index is.are.records c.args.uri.now c.args.moment.now) ∙ sym (c.in-Err.ensures is.are.records are)),
      refl,
    );
    reads = reads_nothing;
  };
  early = tt;
  inside = λ bytes is off. refl;
  keeps = keeps_same _;
  fails = record { may = refl; failed = λ bytes held is. refl };
}
