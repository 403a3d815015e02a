-- What buffers that callers lend hold. This project's own notion.
use Rattle.std.specs.Prelude.{◌≡◌, ℕ, List, length, take, drop}

-- the buffer begins with the list, as far as it has room for it
abbrev pub HoldsFront : {X : Type 0} → List X → List X → Type 0
HoldsFront list buffer = take (length list) buffer ≡ take (length buffer) list

-- what follows the first n in the buffer stays
abbrev pub KeepsAfter : {X : Type 0} → ℕ → List X → List X → Type 0
KeepsAfter n old new = drop n new ≡ drop n old
