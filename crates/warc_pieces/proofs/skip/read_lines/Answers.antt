use Rattle.std.proofs.Common.{arith}
use Rattle.warc_pieces.proofs.SkipLemmas.{line_room}
use Rattle.warc_pieces.proofs.skip.read_lines.Goals as goal

pub overflow_sub-head : goal.overflow_sub-head
overflow_sub-head g c = let room = line_room c.args.head.now c.requires.version c.requires.ends in omega (arith, room)

pub slice_bounds-read_area-count : goal.slice_bounds-read_area-count
slice_bounds-read_area-count g c = let room = line_room c.args.head.now c.requires.version c.requires.ends in omega (arith, room)

pub slice_bounds-read_area-start : goal.slice_bounds-read_area-start
slice_bounds-read_area-start g c = let room = line_room c.args.head.now c.requires.version c.requires.ends in omega (arith, room)
