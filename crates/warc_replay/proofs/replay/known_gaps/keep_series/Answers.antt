use Rattle.warc_replay.proofs.SeriesLemmas.{kept_series}
use Rattle.warc_replay.proofs.replay.known_gaps.keep_series.Goals as goal

pub returns : goal.returns
returns g c = record {
  gaps = c.requires.known.gaps;
  series = kept_series c.args.parts.now c.args.gaps.now.series c.keep_known.new.series c.args.shared c.args.places.items c.requires.known.series c.requires.series c.keep_known.ensures;
}
