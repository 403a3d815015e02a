-- What is put of the captures of a URI. This project's own notion.
use Rattle.std.specs.Prelude.{◌≡◌, ℕ, List, length}
use Rattle.warc_index.specs.Captures.{AreCapturesOf, Indexed}
use Rattle.warc_lent.specs.Buffers.{HoldsFront}

-- their positions, as many as there is room for; their number is answered
pub record AreCapturesPut (all : List Indexed) (uri : List ℕ) (number : ℕ) (out : List ℕ) : Type 0 where
  pub positions : List ℕ
  pub are : AreCapturesOf all uri positions
  pub front : HoldsFront positions out
  pub number_is : number ≡ length positions
