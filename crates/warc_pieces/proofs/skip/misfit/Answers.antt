use Rattle.std.proofs.Common.{◌-◌, arith, length, subst, sym, ◌∙◌}
use Rattle.std.specs.Prelude.{slice_range}
use Rattle.warc_field.specs.Area.{Fails, ReportsWithin, area_of}
use Rattle.warc_field.specs.declared.area.AreaFault.{AreaFault}
use Rattle.warc_pieces.proofs.SkipLemmas.{end_room, line_room, no_line_there, none_before_bad}
use Rattle.warc_pieces.proofs.skip.misfit.Goals as goal

pub returns-then-not-begins_version-clause-some : goal.returns-then-not-begins_version-clause-some
returns-then-not-begins_version-clause-some g c = let room = end_room c.args.head.now c.requires.ends in (omega arith, omega (arith, room))

pub returns-then-not-begins_version-clause-none : goal.returns-then-not-begins_version-clause-none
returns-then-not-begins_version-clause-none g c = λ more. no_line_there c.args.head.now more (sym c.begins_version.ensures ∙ c.if-not-begins_version.true)

pub returns-in-Err-Line-clause-none : goal.returns-in-Err-Line-clause-none
returns-in-Err-Line-clause-none g c = λ more.
    let head = c.args.head.now in
    let is = sym c.begins_version.ensures ∙ c.if-not-begins_version.false in
    let F : AreaFault → Type 0 = λ e. Fails e (area_of (slice_range head 10 (length head - 2))) in
    let W : AreaFault → Type 0 = λ e. ReportsWithin (length head - 12) e in
    let within = subst W c.in-Err-Line.field-0-is c.in-Err-Line.ensures.within in
    let room = line_room head is c.requires.ends in
    none_before_bad head more c.in-Err-Line.at c.requires.ends is (subst F c.in-Err-Line.field-0-is c.in-Err-Line.ensures.exact) (omega (arith, within, room))

pub returns-in-Err-Line-clause-some : goal.returns-in-Err-Line-clause-some
returns-in-Err-Line-clause-some g c =
    let head = c.args.head.now in
    let W : AreaFault → Type 0 = λ e. ReportsWithin (length head - 12) e in
    let within = subst W c.in-Err-Line.field-0-is c.in-Err-Line.ensures.within in
    let room = line_room head (sym c.begins_version.ensures ∙ c.if-not-begins_version.false) c.requires.ends in
    (omega arith, omega (arith, within, room))
