-- Memory in units of 16 bytes, whatever it holds. This project's own notion.
use Rattle.std.specs.Prelude.{ℕ}
use mir.Syntax.{Ty, w128, ty_int, ty_array}
use base.Fml.{Fml}
use denote.RawPtr.{Ptr, room_for}

-- the type of n units, aligned to 16
abbrev pub units_of : ℕ → Ty
units_of n = ty_array (ty_int w128) n

-- room for n units at p
abbrev pub room_of : ℕ → Ptr → Fml
room_of n p = room_for (units_of n) p
