use Rattle.warc_answer.proofs.KnownLemmas.{none_bad}
use Rattle.warc_answer.proofs.SplitLemmas.{own_good, rest_good}
use Rattle.warc_answer.proofs.split.judge_split.Goals as goal

pub returns-in-Good-clause-judged : goal.returns-in-Good-clause-judged
returns-in-Good-clause-judged g c = λ bytes held content joined is says own extent right.
    let fine = none_bad c.args.known.whole _ c.in-Good.is right.whole in
    c.judge_own.ensures.judged bytes held content joined is says own extent (rest_good joined fine) (own_good joined fine)

pub returns-in-Good-rest-clause-judged : goal.returns-in-Good-rest-clause-judged
returns-in-Good-rest-clause-judged g c = λ bytes held content joined is says own extent right.
    c.judge_own-in-Good-rest.ensures.judged bytes held content joined is says own extent (none_bad c.args.known.rest _ c.in-Good-rest.is right.rest) right.own

pub returns-in-Unchecked-rest-clause-judged : goal.returns-in-Unchecked-rest-clause-judged
returns-in-Unchecked-rest-clause-judged g c = λ bytes held content joined is says own extent right.
    c.find_stored.ensures.judged bytes held content joined is says own
