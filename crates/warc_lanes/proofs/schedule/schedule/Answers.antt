use Rattle.warc_lanes.specs.Lanes.{bytes_in}
use Rattle.warc_lanes.proofs.KeyedLemmas.{before_keyed_words}
use Rattle.warc_lanes.proofs.schedule.schedule.Goals as goal

pub returns : goal.returns
returns c j h =
    let block = bytes_in j c.args.blocks.now in
    let start = before_keyed_words block _ _ (c.load.ensures j h) in
    let twenty = c.put_twenty_words.ensures j h block start in
    let forty = c.put_twenty_words-2.ensures j h block twenty in
    let sixty = c.put_twenty_words-3.ensures j h block forty in
    (c.put_twenty_words-4.ensures j h block sixty).keyed_are
