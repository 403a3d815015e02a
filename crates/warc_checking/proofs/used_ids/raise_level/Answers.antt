use Rattle.std.proofs.Common.{◌<◌, arith}
use Rattle.warc_checking.specs.UsedIds.{level_in}
use Rattle.warc_checking.proofs.LevelLemmas.{no_less, raised_by_one, raised_fits}
use Rattle.warc_checking.proofs.used_ids.raise_level.Goals as goal

pub overflow_add-result : goal.overflow_add-result
overflow_add-result c =
    let low : level_in c.args.levels c.args.place < 2 = omega (arith, c.level_of.ensures, c.if-level_of-lt2.true) in
    record { fits = raised_fits c.args.levels c.args.place c.requires c.ranges.levels.fits low }

pub returns-then-level_of-lt2-clause-more : goal.returns-then-level_of-lt2-clause-more
returns-then-level_of-lt2-clause-more c = λ other within.
    let low : level_in c.args.levels c.args.place < 2 = omega (arith, c.level_of.ensures, c.if-level_of-lt2.true) in
    no_less c.args.levels c.args.place other c.requires within low

pub returns-then-level_of-lt2-clause-once : goal.returns-then-level_of-lt2-clause-once
returns-then-level_of-lt2-clause-once c =
    let low : level_in c.args.levels c.args.place < 2 = omega (arith, c.level_of.ensures, c.if-level_of-lt2.true) in
    omega (arith, raised_by_one c.args.levels c.args.place c.requires low)

pub returns-then-level_of-lt2-clause-twice : goal.returns-then-level_of-lt2-clause-twice
returns-then-level_of-lt2-clause-twice c = λ some.
    let low : level_in c.args.levels c.args.place < 2 = omega (arith, c.level_of.ensures, c.if-level_of-lt2.true) in
    omega (arith, some, raised_by_one c.args.levels c.args.place c.requires low)
