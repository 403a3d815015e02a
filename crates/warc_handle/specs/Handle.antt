-- What a handle owns: where it is open, the archive in the block that its pointer leads to.
use Rattle.std.specs.Prelude.{Bool, true, false}
use Rattle.std.specs.Box.Ownership.{box_owns}
use Rattle.std.specs.contracts.alloc.Global as heap
use Rattle.std.specs.contracts.impls.GlobalAllocator.TheImpl as of_heap
use Rattle.warc.specs.contracts.opened.archive.Archive as archive
use Rattle.warc_frame.specs.contracts.source.SliceSource as lent
use Rattle.warc_frame.specs.contracts.source.SliceSourceSource.TheImpl as of_lent
use base.Fml.{Fml, ftrue, fex}
use denote.RattleType.{RattleType}
use denote.RawPtr.{Ptr}
use denote.Signature.{static_lft}

-- an archive over bytes that are lent until it is closed
abbrev pub open_row : RattleType
open_row = archive.the_row (lent.the_row static_lft) heap.the_row of_lent.ghosts of_heap.ghosts

-- some archive, if it is open
abbrev pub handle_owns : Ptr → Bool → Fml
handle_owns p false = ftrue
handle_owns p true =
    fex ((open_row).Denot × (heap.the_row).Denot) (λ s. box_owns (of_heap.ghosts.dealloc_token s.1) open_row p s.0)
