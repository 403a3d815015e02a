-- What a handle owns: where it is open, a reference for good to the archive that its pointer leads to.
use Rattle.std.specs.Prelude.{Bool, true, false, []}
use Rattle.std.specs.contracts.prelude.RefAllocator.TheImpl as of_reference
use Rattle.warc.specs.contracts.opened.archive.Archive as archive
use Rattle.warc_frame.specs.contracts.source.SliceSource as lent
use Rattle.warc_frame.specs.contracts.source.SliceSourceSource.TheImpl as of_lent
use Rattle.warc_heap.specs.contracts.heap.Heap as heap
use Rattle.warc_heap.specs.contracts.heap.HeapAllocator.TheImpl as of_heap
use mir.Syntax.{Dict, impl, tnil, dnil}
use base.Fml.{Fml, ftrue, feq, fex, fsep}
use denote.RattleType.{RattleType}
use denote.RawPtr.{Ptr, block_ptr}
use denote.Ref.{MutRef, ShrRef, mut_vals}
use denote.Signature.{static_lft}

-- what a row says of an allocator doesn't depend on its table of methods
abbrev no_methods : Dict
no_methods = impl [] tnil dnil

-- an archive over bytes that are lent for good, in memory that is given for good
abbrev pub lasting_row : RattleType
lasting_row =
    archive.the_row (lent.the_row static_lft) (ShrRef static_lft.mir static_lft.lft heap.the_row) of_lent.ghosts
    (of_reference.ghosts heap.the_row of_heap.ghosts no_methods no_methods)

-- a reference for good to such an archive
abbrev pub reference_row : RattleType
reference_row = MutRef static_lft.mir static_lft.lft lasting_row

-- what a reference owns that leads to where p does
abbrev pub leads_to : Ptr → (reference_row).Denot → Fml
leads_to p r =
    fsep (feq Ptr p (block_ptr r.ref_ptr.0 r.ref_ptr.1)) ((reference_row).own_val r (mut_vals r))

-- some reference, if it is open
abbrev pub owns_lasting : Ptr → Bool → Fml
owns_lasting p false = ftrue
owns_lasting p true = fex (reference_row).Denot (leads_to p)
