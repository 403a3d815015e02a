-- The pieces of bytes: runs of good records, and the damage between them. This project's own notion.
use Rattle.std.specs.Prelude.{◌≡◌, ℕ, ◌+◌, ◌<◌, ◌≤◌, ◌⊎◌, List, [], ◌∷◌, ◌++◌, length, take, drop, Option, Some}
use Rattle.warc_frame.specs.Faults.{ReadsAs}
use Rattle.warc_frame.specs.Record.{Record, max_archive}
use Rattle.warc_frame.specs.Spelling.{Spells}
use Rattle.warc_frame.specs.declared.fault.Fault.{Fault}
use Rattle.warc_record.specs.Good.{IsGood}
use Rattle.warc_record.specs.Heads.{head_fault}
use Rattle.warc_reading.specs.Fronts.{BeginsWithNone}
use Rattle.warc_pieces.specs.declared.piece.Piece.{Piece}
use Rattle.warc_pieces.specs.declared.piece.Piece.TheVariants.{Records, Damage}

-- the bytes of which there are pieces: those before offset 2^48
unfoldable pub near : List ℕ → List ℕ
near bytes = take max_archive bytes

-- a text begins with a good record, which is whole in it
pub record BeginsWithOne (text : List ℕ) : Type 0 where
  pub content : Record
  pub front : List ℕ
  pub rest : List ℕ
  pub text_is : text ≡ front ++ rest
  pub spelled : Spells content front
  pub good : IsGood content

-- the longest list of good records that a text at offset `at` begins with: their number, how many bytes they are, and
-- the fault of what follows them, if anything does
pub record IsRun (at : ℕ) (text : List ℕ) (count len : ℕ) (found : Option Fault) : Type 0 where
  pub records : List Record
  pub reads : ReadsAs head_fault at text records found
  pub count_is : count ≡ length records
  pub len_is : len ≡ length reads.front

-- The first `len` bytes of a text at offset `at` are damage: the text begins with no good record, and this is its
-- fault; the next good record that is whole in it begins after these bytes, or they are all of it.
pub record IsDamage (at : ℕ) (text : List ℕ) (len : ℕ) (fault : Fault) : Type 0 where
  pub fault_is : ReadsAs head_fault at text [] (Some fault)
  pub some : 0 < len
  pub within : len ≤ length text
  pub none : (n : ℕ) → n < len → BeginsWithNone (drop n text)
  pub next : (len ≡ length text) ⊎ BeginsWithOne (drop len text)

-- the first piece of a text at offset `at`
abbrev pub IsPiece : ℕ → List ℕ → Piece → Type 0
IsPiece at text (Records offset len count) =
    (offset ≡ at) × (0 < count) × (found : Option Fault) × IsRun at text count len found
IsPiece at text (Damage offset len fault) = (offset ≡ at) × IsDamage at text len fault

-- how many bytes a piece has
abbrev pub piece_len : Piece → ℕ
piece_len (Records offset len count) = len
piece_len (Damage offset len fault) = len

-- the pieces of a text at offset `at`: they follow one another to its end
abbrev pub ArePiecesFrom : ℕ → List ℕ → List Piece → Type 0
ArePiecesFrom at text [] = text ≡ []
ArePiecesFrom at text (piece ∷ pieces) =
    IsPiece at text piece × ArePiecesFrom (at + piece_len piece) (drop (piece_len piece) text) pieces

-- the first pieces of a text at offset `at`, which end at offset `end`: they follow one another
abbrev pub AreFirst : ℕ → List ℕ → List Piece → ℕ → Type 0
AreFirst at text [] end = end ≡ at
AreFirst at text (piece ∷ pieces) end =
    IsPiece at text piece × AreFirst (at + piece_len piece) (drop (piece_len piece) text) pieces end

-- the pieces of bytes
abbrev pub ArePieces : List ℕ → List Piece → Type 0
ArePieces bytes pieces = ArePiecesFrom 0 (near bytes) pieces
