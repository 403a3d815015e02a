use Rattle.std.proofs.Common.{ℕ, List, length, sym, subst, refl, arith}
use Rattle.warc_reading.specs.Row.{Row}
use Rattle.warc_rewrite.specs.Selecting.{ArePositions}
use Rattle.warc_commands.proofs.ClosedLemmas.{closure_sent, heads_then, reads_no_record, unclosed}
use Rattle.warc_commands.proofs.console.Console.close_and_send.Goals as goal

pub send_closed-requires : goal.send_closed-requires
send_closed-requires g c =
    let P : List ℕ → Type 0 = λ l. ArePositions (length c.args.archive.now.listing.rows) l in
    let Q : List Row → Type 0 = λ l. ArePositions (length l) c.deref.result.now in
    subst Q (sym c.close.ensures.rows) (subst P (sym c.deref.ensures.value) c.in-Ok.ensures.closes.are)

pub returns-in-Ok-clause-ends : goal.returns-in-Ok-clause-ends
returns-in-Ok-clause-ends g c = λ indexed.
    closure_sent c.args.archive.now c.args.except c.args.positions.now c.close.ensures.closes indexed _ _ _ _ c.in-Ok.is _ c.deref.result.now _ _ _ _ c.close.ensures.rows c.deref.ensures.value
    c.count_beside-besides.ensures c.count.ensures refl (omega (arith, c.len.ensures, c.in-Ok.chosen.ok.0)) c.send_closed.ensures.ends

pub returns-in-Err-clause-ends : goal.returns-in-Err-clause-ends
returns-in-Err-clause-ends g c = λ indexed.
    unclosed c.args.archive.now c.args.except c.args.positions.now c.close.ensures.closes indexed _ c.in-Err.is c.fail.ensures.reported c.fail.ensures.status

pub returns-in-Ok-clause-reads : goal.returns-in-Ok-clause-reads
returns-in-Ok-clause-reads g c = heads_then c.args.archive.now c.args.except c.args.positions.now c.close.ensures.closes c.in-Ok.is _ c.deref.result.now _ c.close.ensures.rows c.deref.ensures.value c.send_closed.ensures.reads

pub returns-in-Err-clause-reads : goal.returns-in-Err-clause-reads
returns-in-Err-clause-reads g c = record { mid = _; heads = c.in-Err.ensures.closes.reads; some = reads_no_record _ _ }
