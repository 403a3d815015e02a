use Rattle.warc_pieces.proofs.RecordLemmas.{quick_judged}
use Rattle.warc_pieces.proofs.record.quick_len.Goals as goal

pub returns-clause-judges : goal.returns-clause-judges
returns-clause-judges g c = λ bytes shows there.
    let q = c.in-Some.ensures in
    quick_judged bytes c.shown.result.now c.args.at c.args.window.now q.content c.in-Some.found.len c.shown.ensures.shown q.within q.spelled q.says.good c.requires.begin there shows
