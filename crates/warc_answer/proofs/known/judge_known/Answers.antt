use Rattle.warc_answer.proofs.KnownLemmas.{none_bad}
use Rattle.warc_answer.proofs.known.judge_known.Goals as goal

pub returns-in-Unchecked-clause-judged : goal.returns-in-Unchecked-clause-judged
returns-in-Unchecked-clause-judged g c = λ bytes held content joined is says own agrees. c.find_stored.ensures.judged bytes held content joined is says own

pub returns-in-Good-clause-judged : goal.returns-in-Good-clause-judged
returns-in-Good-clause-judged g c = λ bytes held content joined is says own agrees.
    c.judge_good.ensures.judged bytes held content joined is says own (none_bad c.args.known _ c.in-Good.is agrees)
