use Rattle.warc_replay.proofs.KnownLemmas.{found_bad, found_headless}
use Rattle.warc_replay.proofs.replay.captures.verdict_for.Goals as goal

pub returns-in-BadHead : goal.returns-in-BadHead
returns-in-BadHead c = λ records origin at. found_headless records origin c.args.reason c.in-BadHead.is at

pub returns-in-BadDigest : goal.returns-in-BadDigest
returns-in-BadDigest c = λ records origin at. found_bad records origin c.args.reason c.in-BadDigest.is at
