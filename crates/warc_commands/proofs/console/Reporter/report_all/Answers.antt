use Rattle.std.proofs.Common.{ap, ◌∙◌}
use Rattle.warc_frame.specs.Count.{raised}
use Rattle.warc_commands.proofs.CaptureLemmas.{reported_front, reported_whole}
use Rattle.warc_commands.proofs.console.Reporter.report_all.Goals as goal

pub returns-in-Err : goal.returns-in-Err
returns-in-Err g c = reported_front _ _ _ _ (c.in-Err.ensures.cut _ _ (c.new-buffer.ensures.begins ((g.E.Sink.seen c.args.self.now.sink).reports))) c.in-Err.ensures.cause

pub returns-in-Ok-flush : goal.returns-in-Ok-flush
returns-in-Ok-flush g c = reported_whole _ _ _ (c.in-Ok-flush.ensures.reported _ _ (c.in-Ok.ensures.out _ _ (c.new-buffer.ensures.begins ((g.E.Sink.seen c.args.self.now.sink).reports))))

pub returns-in-Err-flush : goal.returns-in-Err-flush
returns-in-Err-flush g c =
    reported_front _ _ _ _ (c.in-Err-flush.ensures.cut _ _ (c.in-Ok.ensures.out _ _ (c.new-buffer.ensures.begins ((g.E.Sink.seen c.args.self.now.sink).reports))))
    (c.in-Err-flush.ensures.cause ∙ ap raised c.in-Ok.ensures.cause)
