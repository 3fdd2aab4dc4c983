-- What a handle owns: the value that it stands for, in a block of the C library's heap; an empty one owns nothing.
use Rattle.std.specs.Prelude.{Option, Some, None}
use Rattle.std.specs.Global.{Global}
use Rattle.std.specs.Box.Ownership.{box_owns}
use Rattle.std_heap.specs.contracts.GlobalAllocator.TheImpl.{ghosts}
use Rattle.sacn_c.specs.declared.held_value.Held.{Held}
use Rattle.sacn_c.specs.contracts.held_value.Held.{the_row}
use base.Fml.{Fml, ftrue}
use denote.RawPtr.{Ptr}

abbrev pub owned : Global → Ptr → Option Held → Fml
owned alloc at None = ftrue
owned alloc at (Some held) = box_owns (ghosts.dealloc_token alloc) the_row at held
