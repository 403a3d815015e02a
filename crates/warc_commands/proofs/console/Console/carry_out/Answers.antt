use Rattle.std.proofs.Common.{rules, ◌≡◌, ◌⊎◌, false}
use Rattle.warc_commands.specs.Ends.{MayFind, MayRefuse, writes_front}
use Rattle.warc_commands.specs.Parts.{PartEnds}
use Rattle.warc_replay.specs.declared.record.part.Part.TheVariants as part
use Rattle.warc_arguments.specs.declared.status.Status.TheVariants.{Done, Refused, Failed}
use Rattle.warc_commands.specs.Captures.{CapturesEnds}
use Rattle.warc_commands.specs.Devices.{used}
use Rattle.warc_commands.specs.Instants.{InstantEnds}
use Rattle.warc_commands.specs.Program.{SplitEnds}
use Rattle.warc_commands.specs.Stored.{DatedAs, GivenAs, ReplayedAs}
use Rattle.warc_commands.specs.Words.{read_moment}
use Rattle.warc_commands.proofs.WordLemmas.{by_read, run_by_uri, run_by_word}
use Rattle.warc_commands.proofs.console.Console.carry_out.Goals as goal

pub returns-in-Replay-clause-runs : goal.returns-in-Replay-clause-runs
returns-in-Replay-clause-runs g c = rw c.in-Replay.is c.replay.ensures

pub returns-in-Captures-clause-runs : goal.returns-in-Captures-clause-runs
returns-in-Captures-clause-runs g c = rw c.in-Captures.is c.captures-2.ensures

pub returns-in-Write-clause-runs : goal.returns-in-Write-clause-runs
returns-in-Write-clause-runs g c = rw c.in-Write.is (record { ends = c.write.ensures.ends; kept = c.write.ensures.kept; reads = c.write.ensures.reads })

pub returns-in-Head-clause-runs : goal.returns-in-Head-clause-runs
returns-in-Head-clause-runs g c = rw c.in-Head.is c.give.ensures

pub returns-in-Block-clause-runs : goal.returns-in-Block-clause-runs
returns-in-Block-clause-runs g c = rw c.in-Block.is c.give-in-Block.ensures

pub returns-in-Salvage-false-clause-runs : goal.returns-in-Salvage-false-clause-runs
returns-in-Salvage-false-clause-runs g c =
    let no : c.in-Salvage-false.all ≡ false = search rules in
    rw (c.in-Salvage-false.is, no) (record { ends = c.salvage.ensures.ends; kept = c.salvage.ensures.kept; reads = c.salvage.ensures.reads })

pub returns-in-Body-clause-answers : goal.returns-in-Body-clause-answers
returns-in-Body-clause-answers g c = rw c.in-Body.is (run_by_word g.S.Source.seen (GivenAs c.in-Body.stored) _ _ _ _ c.body.result (λ last status. MayFind status) (λ x last status is. search rules) (λ why last status is. search rules) c.body.ensures)

pub returns-in-Body-clause-refused : goal.returns-in-Body-clause-refused
returns-in-Body-clause-refused g c = run_by_word g.S.Source.seen (GivenAs c.in-Body.stored) _ _ _ _ c.body.result (λ last status. writes_front c.args.command.now ≡ false → status ≡ Refused → (last.out.reports ≡ (g.W.Sink.seen c.args.self.now.out).reports) × (last.out.faults ≡ (g.W.Sink.seen c.args.self.now.out).faults)) (λ x last status is front refused. search rules) (λ why last status is front refused. search rules) c.body.ensures

pub returns-in-Split-clause-answers : goal.returns-in-Split-clause-answers
returns-in-Split-clause-answers g c = rw c.in-Split.is (run_by_word g.S.Source.seen SplitEnds _ _ _ _ c.split.result (λ last status. MayRefuse status) (λ x last status is. search rules) (λ why last status is. search rules) c.split.ensures)

pub returns-in-Split-clause-refused : goal.returns-in-Split-clause-refused
returns-in-Split-clause-refused g c = run_by_word g.S.Source.seen SplitEnds _ _ _ _ c.split.result (λ last status. writes_front c.args.command.now ≡ false → status ≡ Refused → (last.out.reports ≡ (g.W.Sink.seen c.args.self.now.out).reports) × (last.out.faults ≡ (g.W.Sink.seen c.args.self.now.out).faults)) (λ x last status is front refused. search rules) (λ why last status is front refused. search rules) c.split.ensures

pub returns-in-Head-clause-answers : goal.returns-in-Head-clause-answers
returns-in-Head-clause-answers g c = rw c.in-Head.is (run_by_word g.S.Source.seen (PartEnds part.Head) _ _ _ _ c.give.result (λ last status. MayFind status) (λ x last status is. search rules) (λ why last status is. search rules) c.give.ensures)

pub returns-in-Head-clause-refused : goal.returns-in-Head-clause-refused
returns-in-Head-clause-refused g c = run_by_word g.S.Source.seen (PartEnds part.Head) _ _ _ _ c.give.result (λ last status. writes_front c.args.command.now ≡ false → status ≡ Refused → (last.out.reports ≡ (g.W.Sink.seen c.args.self.now.out).reports) × (last.out.faults ≡ (g.W.Sink.seen c.args.self.now.out).faults)) (λ x last status is front refused. search rules) (λ why last status is front refused. search rules) c.give.ensures

pub returns-in-Block-clause-answers : goal.returns-in-Block-clause-answers
returns-in-Block-clause-answers g c = rw c.in-Block.is (run_by_word g.S.Source.seen (PartEnds part.Block) _ _ _ _ c.give-in-Block.result (λ last status. MayFind status) (λ x last status is. search rules) (λ why last status is. search rules) c.give-in-Block.ensures)

pub returns-in-Block-clause-refused : goal.returns-in-Block-clause-refused
returns-in-Block-clause-refused g c = run_by_word g.S.Source.seen (PartEnds part.Block) _ _ _ _ c.give-in-Block.result (λ last status. writes_front c.args.command.now ≡ false → status ≡ Refused → (last.out.reports ≡ (g.W.Sink.seen c.args.self.now.out).reports) × (last.out.faults ≡ (g.W.Sink.seen c.args.self.now.out).faults)) (λ x last status is front refused. search rules) (λ why last status is front refused. search rules) c.give-in-Block.ensures

pub returns-in-Replay-clause-answers : goal.returns-in-Replay-clause-answers
returns-in-Replay-clause-answers g c = rw c.in-Replay.is (run_by_uri g.S.Source.seen (DatedAs c.in-Replay.stored c.in-Replay.date.now) _ _ _ _ _ c.replay.result (λ last status. MayFind status) (λ uri last status. by_read (ReplayedAs c.in-Replay.stored uri) (read_moment c.in-Replay.date.now) (used (g.S.Source.seen c.args.source) g.W.Sink.seen g.E.Sink.seen c.args.self.now) (λ last status. MayFind status) (λ x last status is. search rules) (λ why last status is. search rules) last status) (λ why last status is. search rules) c.replay.ensures)

pub returns-in-Replay-clause-refused : goal.returns-in-Replay-clause-refused
returns-in-Replay-clause-refused g c = run_by_uri g.S.Source.seen (DatedAs c.in-Replay.stored c.in-Replay.date.now) _ _ _ _ _ c.replay.result (λ last status. writes_front c.args.command.now ≡ false → status ≡ Refused → (last.out.reports ≡ (g.W.Sink.seen c.args.self.now.out).reports) × (last.out.faults ≡ (g.W.Sink.seen c.args.self.now.out).faults)) (λ uri last status. by_read (ReplayedAs c.in-Replay.stored uri) (read_moment c.in-Replay.date.now) (used (g.S.Source.seen c.args.source) g.W.Sink.seen g.E.Sink.seen c.args.self.now) (λ last status. writes_front c.args.command.now ≡ false → status ≡ Refused → (last.out.reports ≡ (g.W.Sink.seen c.args.self.now.out).reports) × (last.out.faults ≡ (g.W.Sink.seen c.args.self.now.out).faults)) (λ x last status is front refused. search rules) (λ why last status is front refused. search rules) last status) (λ why last status is front refused. search rules) c.replay.ensures

pub returns-in-Captures-clause-answers : goal.returns-in-Captures-clause-answers
returns-in-Captures-clause-answers g c = rw c.in-Captures.is (run_by_uri g.S.Source.seen CapturesEnds _ _ _ _ _ c.captures-2.result (λ last status. MayFind status) (λ x last status is. search rules) (λ why last status is. search rules) c.captures-2.ensures)

pub returns-in-Captures-clause-refused : goal.returns-in-Captures-clause-refused
returns-in-Captures-clause-refused g c = run_by_uri g.S.Source.seen CapturesEnds _ _ _ _ _ c.captures-2.result (λ last status. writes_front c.args.command.now ≡ false → status ≡ Refused → (last.out.reports ≡ (g.W.Sink.seen c.args.self.now.out).reports) × (last.out.faults ≡ (g.W.Sink.seen c.args.self.now.out).faults)) (λ x last status is front refused. search rules) (λ why last status is front refused. search rules) c.captures-2.ensures

pub returns-in-Instant-clause-runs : goal.returns-in-Instant-clause-runs
returns-in-Instant-clause-runs g c =
    rw c.in-Instant.is
    (record { ends = c.instant.ensures.ends; kept = c.instant.ensures.kept; reads = by_read (λ instant. InstantEnds c.in-Instant.date.now) (read_moment c.in-Instant.date.now) (used (g.S.Source.seen c.args.source) g.W.Sink.seen g.E.Sink.seen c.args.self.now) (λ last status. last.source ≡ g.S.Source.seen c.args.source) (λ x last status is. is.0) (λ why last status is. is.unread) _ _ c.instant.ensures.ends })

pub returns-in-Instant-clause-answers : goal.returns-in-Instant-clause-answers
returns-in-Instant-clause-answers g c = rw c.in-Instant.is (by_read (λ instant. InstantEnds c.in-Instant.date.now) (read_moment c.in-Instant.date.now) (used (g.S.Source.seen c.args.source) g.W.Sink.seen g.E.Sink.seen c.args.self.now) (λ last status. (status ≡ Done) ⊎ (status ≡ Failed)) (λ x last status is. search rules) (λ why last status is. search rules) _ _ c.instant.ensures.ends)

pub returns-in-Instant-clause-refused : goal.returns-in-Instant-clause-refused
returns-in-Instant-clause-refused g c = by_read (λ instant. InstantEnds c.in-Instant.date.now) (read_moment c.in-Instant.date.now) (used (g.S.Source.seen c.args.source) g.W.Sink.seen g.E.Sink.seen c.args.self.now) (λ last status. writes_front c.args.command.now ≡ false → status ≡ Refused → (last.out.reports ≡ (g.W.Sink.seen c.args.self.now.out).reports) × (last.out.faults ≡ (g.W.Sink.seen c.args.self.now.out).faults)) (λ x last status is front refused. search rules) (λ why last status is front refused. search rules) _ _ c.instant.ensures.ends
