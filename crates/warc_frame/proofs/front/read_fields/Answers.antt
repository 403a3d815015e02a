use Rattle.std.proofs.Common.{◌-◌, ap, arith, drop, length-drop, length-take, subst}
use Rattle.warc_field.specs.Area.{ReportsWithin}
use Rattle.warc_frame.specs.declared.fault.Fault.{Fault}
use Rattle.warc_frame.proofs.HeadLemmas.{head_room, head_within}
use Rattle.warc_frame.proofs.LengthLemmas.{spelled_head}
use Rattle.warc_frame.proofs.front.read_fields.Goals as goal

pub overflow_sub-len : goal.overflow_sub-len
overflow_sub-len g c = omega (arith, head_room _ _ _ c.requires.version c.requires.len)

pub slice_bounds-read_area_in-count : goal.slice_bounds-read_area_in-count
slice_bounds-read_area_in-count g c = omega (arith, head_room _ _ _ c.requires.version c.requires.len)

pub slice_bounds-read_area_in-start : goal.slice_bounds-read_area_in-start
slice_bounds-read_area_in-start g c = omega (arith, head_room _ _ _ c.requires.version c.requires.len)

pub slice_bounds-read_area_in-end : goal.slice_bounds-read_area_in-end
slice_bounds-read_area_in-end g c = omega (arith, head_within _ _ c.requires.len)

pub returns-in-Err-Line-clause-by : goal.returns-in-Err-Line-clause-by
returns-in-Err-Line-clause-by g c =
    let text = c.args.text.now in
    let within = subst (ReportsWithin _) c.in-Err-Line.field-0-is c.in-Err-Line.ensures.within in
    let offset = ap (λ (f : Fault). f.offset) c.at.ensures in
    omega (
      arith,
      within,
      offset,
      length-take (c.args.len - 2 - 10) (drop 10 text),
      length-drop 10 text,
      head_room _ _ _ c.requires.version c.requires.len,
      head_within _ _ c.requires.len,
    )

pub fits_spelled_head-requires : goal.fits_spelled_head-requires
fits_spelled_head-requires g c = spelled_head _ _ c.args.text.now c.args.len c.in-Ok.ensures.exact (head_room _ _ _ c.requires.version c.requires.len)
