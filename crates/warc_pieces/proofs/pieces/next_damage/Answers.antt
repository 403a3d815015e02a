use Rattle.std.proofs.Common.{arith}
use Rattle.warc_pieces.specs.Window.{reached}
use Rattle.warc_pieces.proofs.ReaderLemmas.{damage_few, damage_given, failure_few, inside_of, search_stopped}
use Rattle.warc_pieces.proofs.pieces.next_damage.Goals as goal

pub returns-in-Ok-clause-gives : goal.returns-in-Ok-clause-gives
returns-in-Ok-clause-gives g c = λ bytes held is_present found.
    let at = c.args.walk.now.at in
    let (shows, is) = c.in-Ok.ensures.finds bytes held is_present.shows (inside_of bytes at c.args.fault is_present.within found) in
    damage_given bytes at c.in-Ok.next c.args.fault c.args.walk.now.failure c.next_record.new.window c.requires.sound shows is_present.within found is

pub returns-in-Err-clause-gives : goal.returns-in-Err-clause-gives
returns-in-Err-clause-gives g c = λ bytes held is_present found.
    let at = c.args.walk.now.at in
    let (shows, stopped) = c.in-Err.ensures.finds bytes held is_present.shows (inside_of bytes at c.args.fault is_present.within found) in
    search_stopped bytes at c.args.fault c.in-Err.failure c.args.walk.now.damage c.args.walk.now.window c.next_record.new.window is_present shows found c.in-Err.ensures.fault stopped

pub returns-in-Ok-clause-few : goal.returns-in-Ok-clause-few
returns-in-Ok-clause-few g c = λ bytes held is_present found.
    let (tries, by, few) = c.in-Ok.ensures.reads in
    let within = inside_of bytes c.args.walk.now.at c.args.fault is_present.within found in
    damage_few bytes c.args.walk.now.at (reached c.args.walk.now.window) (reached c.next_record.new.window) (g.S.Source.seen c.args.source.now) (g.S.Source.seen c.next_record.new.source)
    c.in-Ok.next tries c.args.fault by.bound (few bytes held is_present.shows within) (omega (arith, c.in-Ok.ensures.limit.0))

pub returns-in-Err-clause-few : goal.returns-in-Err-clause-few
returns-in-Err-clause-few g c = λ bytes held is_present found.
    let (tries, by, few) = c.in-Err.ensures.reads in
    let within = inside_of bytes c.args.walk.now.at c.args.fault is_present.within found in
    failure_few bytes c.args.walk.now.at (reached c.args.walk.now.window) (reached c.next_record.new.window) (g.S.Source.seen c.args.source.now) (g.S.Source.seen c.next_record.new.source)
    tries c.in-Err.failure by.bound (few bytes held is_present.shows within)
