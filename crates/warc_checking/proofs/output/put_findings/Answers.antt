use Rattle.std.proofs.Common.{rules, ◌≡◌, ◌<◌, length}
use Rattle.warc_checking.proofs.ArchiveTextLemmas.{puts_none, puts_some}
use Rattle.warc_checking.proofs.output.put_findings.Goals as goal

pub returns-then-len-eq0-clause-puts : goal.returns-then-len-eq0-clause-puts
returns-then-len-eq0-clause-puts g c = λ bytes records findings.
    let none : length c.args.rows.now ≡ 0 = search rules in
    puts_none bytes records c.args.rows.now findings.can none c.put_none.ensures.puts

pub returns-clause-puts : goal.returns-clause-puts
returns-clause-puts g c = λ bytes records findings.
    let some : 0 < length c.args.rows.now = search rules in
    puts_some bytes records c.args.rows.now findings.can some (c.put_each.ensures.puts bytes records findings)
