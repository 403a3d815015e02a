use Rattle.std.proofs.Common.{◌≡◌, ℕ, ◌+◌, ◌∙◌, subst, arith, Ok, Some}
use Rattle.warc_pieces.specs.Reader.{GivesOf}
use Rattle.warc_pieces.specs.Run.{answer_of}
use Rattle.warc_pieces.specs.Window.{reached}
use Rattle.warc_pieces.proofs.ReaderLemmas.{advances_by, asked_none, asked_some, end_few, end_given, few_after, run_few, failed_end, failure_given, failure_here, failure_piece, found_given, found_piece, goes_by, goes_some, quiet_end, quiet_found}
use Rattle.warc_pieces.proofs.pieces.next_run.Goals as goal

pub returns-in_default-clause-gives : goal.returns-in_default-clause-gives
returns-in_default-clause-gives g c = λ bytes held is_present.
    let run = c.read_run-count.result in
    let (shows, read) = c.read_run-count.ensures.run bytes held is_present.shows is_present.within in
    end_given bytes c.args.walk.now.at run.count run.len run.end c.args.walk.now.failure c.read_run-count.new.window c.run_piece-piece.result c.requires.sound
    c.in_default.is shows c.requires.inside is_present.within read c.read_run-count.ensures.none c.run_piece-piece.ensures.none c.run_piece-piece.ensures.some

pub returns-in_default-clause-advances : goal.returns-in_default-clause-advances
returns-in_default-clause-advances g c =
    let run = c.read_run-count.result in
    let at = c.args.walk.now.at in
    let quiet = quiet_end run.end c.args.walk.now.failure (g.S.Source.seen c.args.source.now).faults c.in_default.is c.requires.sound in
    let goes = goes_by c.run_piece-piece.result at run.count run.len c.args.walk.now.failure c.requires.sound c.read_run-count.ensures.none c.run_piece-piece.ensures.none c.run_piece-piece.ensures.some c.read_run-count.ensures.few in
    advances_by _ (answer_of run.end) _ _ _ _ at (at + run.len) c.args.walk.now.failure (Ok c.run_piece-piece.result) c.read_run-count.ensures.reads quiet (asked_none c.args.walk.now.failure (g.S.Source.seen c.read_run-count.new.source) c.requires.sound) goes
    c.read_run-count.ensures.limit

pub returns-in-Some-piece-clause-gives : goal.returns-in-Some-piece-clause-gives
returns-in-Some-piece-clause-gives g c = λ bytes held is_present.
    let run = c.read_run-count.result in
    let at = c.args.walk.now.at in
    let (shows, read) = c.read_run-count.ensures.run bytes held is_present.shows is_present.within in
    let kind = c.is_failure.ensures.failed c.if-is_failure.true in
    let (now, fails) = failure_given bytes at run.count run.len run.end c.in-Some.fault c.read_run-count.new.window c.in-Some.is kind shows is_present.within read in
    (now, failure_piece bytes at run.count run.len c.in-Some.fault c.in-Some-piece.piece c.in-Some-piece.ensures.some.0 c.in-Some-piece.ensures.some.1 fails)

pub returns-in-Some-piece-clause-advances : goal.returns-in-Some-piece-clause-advances
returns-in-Some-piece-clause-advances g c =
    let run = c.read_run-count.result in
    let at = c.args.walk.now.at in
    let fault = c.in-Some.fault in
    let same = failed_end run.end fault (g.S.Source.seen c.args.source.now).faults c.in-Some.is in
    let goes = goes_some c.in-Some-piece.piece at run.count run.len (Some fault) c.in-Some-piece.ensures.some.0 c.in-Some-piece.ensures.some.1 c.read_run-count.ensures.few in
    advances_by _ (answer_of run.end) _ _ _ _ at (at + run.len) (Some fault) (Ok (Some c.in-Some-piece.piece)) c.read_run-count.ensures.reads same (asked_some run.end fault (g.S.Source.seen c.read_run-count.new.source) c.in-Some.is c.read_run-count.ensures.asked) goes
    c.read_run-count.ensures.limit

pub returns-in-Some-piece-2-clause-gives : goal.returns-in-Some-piece-2-clause-gives
returns-in-Some-piece-2-clause-gives g c = λ bytes held is_present.
    let run = c.read_run-count.result in
    let at = c.args.walk.now.at in
    let failure = c.args.walk.now.failure in
    let (shows, read) = c.read_run-count.ensures.run bytes held is_present.shows is_present.within in
    let kind = c.is_failure.ensures.found c.if-is_failure.false in
    let (now, is) = found_given bytes at run.count run.len run.end failure c.in-Some.fault c.read_run-count.new.window c.in-Some.is c.requires.sound kind.0 kind.1 shows
    is_present.within read in (
      now,
      found_piece bytes at run.count run.len c.in-Some.fault failure c.in-Some-piece-2.piece c.requires.sound c.in-Some-piece-2.ensures.some.0
          c.in-Some-piece-2.ensures.some.1 is,
    )

pub returns-in-Some-piece-2-clause-advances : goal.returns-in-Some-piece-2-clause-advances
returns-in-Some-piece-2-clause-advances g c =
    let run = c.read_run-count.result in
    let at = c.args.walk.now.at in
    let kind = c.is_failure.ensures.found c.if-is_failure.false in
    let quiet = quiet_found run.end c.args.walk.now.failure c.in-Some.fault (g.S.Source.seen c.args.source.now).faults c.in-Some.is kind.0 c.requires.sound in
    let goes = goes_some c.in-Some-piece-2.piece at run.count run.len c.args.walk.now.failure c.in-Some-piece-2.ensures.some.0 c.in-Some-piece-2.ensures.some.1 c.read_run-count.ensures.few in
    advances_by _ (answer_of run.end) _ _ _ _ at (at + run.len) c.args.walk.now.failure (Ok (Some c.in-Some-piece-2.piece)) c.read_run-count.ensures.reads quiet (asked_none c.args.walk.now.failure (g.S.Source.seen c.read_run-count.new.source) c.requires.sound)
    goes c.read_run-count.ensures.limit

pub returns-in-None-clause-gives : goal.returns-in-None-clause-gives
returns-in-None-clause-gives g c = λ bytes held is_present.
    let run = c.read_run-count.result in
    let at = c.args.walk.now.at in
    let (shows, read) = c.read_run-count.ensures.run bytes held is_present.shows is_present.within in
    let kind = c.is_failure.ensures.failed c.if-is_failure.true in
    let (now, fails) = failure_given bytes at run.count run.len run.end c.in-Some.fault c.read_run-count.new.window c.in-Some.is kind shows is_present.within read in
    let zero = c.read_run-count.ensures.none (c.run_piece-piece.ensures.none c.in-None.is) in
    (now, failure_here bytes at run.count run.len c.in-Some.fault zero fails)

pub returns-in-None-piece-clause-gives : goal.returns-in-None-piece-clause-gives
returns-in-None-piece-clause-gives g c = λ bytes held is_present.
    let run = c.read_run-count.result in
    let at = c.args.walk.now.at in
    let (shows, read) = c.read_run-count.ensures.run bytes held is_present.shows is_present.within in
    let kind = c.is_failure.ensures.found c.if-is_failure.false in
    let (now, is) = found_given bytes at run.count run.len run.end c.args.walk.now.failure c.in-Some.fault c.read_run-count.new.window c.in-Some.is c.requires.sound
    kind.0 kind.1 shows is_present.within read in
    let zero = c.read_run-count.ensures.none (c.run_piece-piece.ensures.none c.in-None-piece.is) in
    let here : at + run.len ≡ at = omega (arith, zero) in
    let (then, gives) = c.next_damage.ensures.gives bytes (c.read_run-count.ensures.reads.kept ∙ held) now now.found in
    let P : ℕ → Type 0 = λ n. GivesOf bytes n c.next_damage.new.walk.at c.next_damage.new.walk.failure c.next_damage.result in
    (then, subst P here gives)

pub returns-in_default-clause-few : goal.returns-in_default-clause-few
returns-in_default-clause-few g c = λ bytes held is_present.
    let run = c.read_run-count.result in
    let at = c.args.walk.now.at in
    end_few bytes at (reached c.args.walk.now.window) (reached c.read_run-count.new.window) (g.S.Source.seen c.args.source.now) (g.S.Source.seen c.read_run-count.new.source) at run.count run.len
    c.run_piece-piece.result c.read_run-count.ensures.reads.bound c.run_piece-piece.ensures.none c.run_piece-piece.ensures.some

pub returns-in-Some-piece-clause-few : goal.returns-in-Some-piece-clause-few
returns-in-Some-piece-clause-few g c = λ bytes held is_present.
    let run = c.read_run-count.result in
    let at = c.args.walk.now.at in
    run_few bytes at (reached c.args.walk.now.window) (reached c.read_run-count.new.window) (g.S.Source.seen c.args.source.now) (g.S.Source.seen c.read_run-count.new.source) at run.count run.len
    c.in-Some-piece.piece c.read_run-count.ensures.reads.bound c.in-Some-piece.ensures.some.0

pub returns-in-Some-piece-2-clause-few : goal.returns-in-Some-piece-2-clause-few
returns-in-Some-piece-2-clause-few g c = λ bytes held is_present.
    let run = c.read_run-count.result in
    let at = c.args.walk.now.at in
    run_few bytes at (reached c.args.walk.now.window) (reached c.read_run-count.new.window) (g.S.Source.seen c.args.source.now) (g.S.Source.seen c.read_run-count.new.source) at run.count run.len
    c.in-Some-piece-2.piece c.read_run-count.ensures.reads.bound c.in-Some-piece-2.ensures.some.0

pub returns-in-None-piece-clause-few : goal.returns-in-None-piece-clause-few
returns-in-None-piece-clause-few g c = λ bytes held is_present.
    let run = c.read_run-count.result in
    let at = c.args.walk.now.at in
    let (shows, read) = c.read_run-count.ensures.run bytes held is_present.shows is_present.within in
    let kind = c.is_failure.ensures.found c.if-is_failure.false in
    let (now, is) = found_given bytes at run.count run.len run.end c.args.walk.now.failure c.in-Some.fault c.read_run-count.new.window c.in-Some.is c.requires.sound
    kind.0 kind.1 shows is_present.within read in
    let none = c.run_piece-piece.ensures.none c.in-None-piece.is in
    let here : at + run.len ≡ at = omega (arith, c.read_run-count.ensures.none none) in
    few_after bytes at (at + run.len) run.count (reached c.args.walk.now.window) (reached c.read_run-count.new.window) (reached c.next_damage.new.walk.window) c.next_damage.result
    (g.S.Source.seen c.args.source.now) (g.S.Source.seen c.read_run-count.new.source) (g.S.Source.seen c.next_damage.new.source) c.read_run-count.ensures.reads.bound none here
    (c.next_damage.ensures.few bytes (c.read_run-count.ensures.reads.kept ∙ held) now now.found)
