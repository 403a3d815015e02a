-- The laws of pieces.
use Rattle.std.specs.Prelude.{◌≡◌, ◌≢◌, ℕ, zero, ◌+◌, ◌<◌, ◌≤◌, Bool, true, false, List, [], ◌∷◌, ◌++◌, length, map, take, drop}
use Rattle.std.specs.List.{AllByRecursion, sum_by}
use Rattle.warc_frame.specs.Faults.{following}
use Rattle.warc_frame.specs.Record.{Record, max_archive}
use Rattle.warc_frame.specs.Spelling.{SpellsAll}
use Rattle.warc_reading.specs.Archive.{IsArchiveOf, contents}
use Rattle.warc_reading.specs.Fronts.{IsLongestFront}
use Rattle.warc_reading.specs.Row.{Row}
use Rattle.warc_pieces.specs.Pieces.{ArePieces, piece_len, near}
use Rattle.warc_pieces.specs.declared.piece.Piece.{Piece}
use Rattle.warc_pieces.specs.declared.piece.Piece.TheVariants.{Records, Damage}

-- where a piece begins
abbrev pub offset_of : Piece → ℕ
offset_of (Records offset len count) = offset
offset_of (Damage offset len fault) = offset

-- how many good records a piece has
abbrev pub count_in : Piece → ℕ
count_in (Records offset len count) = count
count_in (Damage offset len fault) = 0

abbrev pub is_damage : Piece → Bool
is_damage (Records offset len count) = false
is_damage (Damage offset len fault) = true

-- the first piece begins at this offset, and each other one where the one before it ends
abbrev pub FollowFrom : ℕ → List Piece → Type 0
FollowFrom at [] = Unit {0}
FollowFrom at (piece ∷ pieces) = (offset_of piece ≡ at) × FollowFrom (at + piece_len piece) pieces

-- damage comes after good records, and good records after damage
abbrev pub AreApart : List Piece → Type 0
AreApart [] = Unit {0}
AreApart (piece ∷ []) = Unit {0}
AreApart (one ∷ next ∷ pieces) = (is_damage one ≢ is_damage next) × AreApart (next ∷ pieces)

-- bytes have at most one list of pieces
abbrev pub PiecesAreUnique : Type 0
PiecesAreUnique = (bytes : List ℕ) (one other : List Piece) → ArePieces bytes one → ArePieces bytes other → one ≡ other

-- all bytes have pieces
abbrev pub PiecesExist : Type 0
PiecesExist = (bytes : List ℕ) → (pieces : List Piece) × ArePieces bytes pieces

-- their lengths sum to the number of the bytes of which there are pieces
abbrev pub PiecesSum : Type 0
PiecesSum = (bytes : List ℕ) (pieces : List Piece) → ArePieces bytes pieces
    → sum_by piece_len pieces ≡ length (near bytes)

-- they begin at offset 0, and follow one another without gap or overlap
abbrev pub PiecesFollow : Type 0
PiecesFollow = (bytes : List ℕ) (pieces : List Piece) → ArePieces bytes pieces → FollowFrom 0 pieces

-- none is empty
abbrev pub PiecesHaveBytes : Type 0
PiecesHaveBytes = (bytes : List ℕ) (pieces : List Piece) → ArePieces bytes pieces
    → AllByRecursion (λ piece. 0 < piece_len piece) pieces

-- no two damages are neighbours, and no two runs
abbrev pub PiecesAreApart : Type 0
PiecesAreApart = (bytes : List ℕ) (pieces : List Piece) → ArePieces bytes pieces → AreApart pieces

-- the pieces of an archive of `len` bytes and `count` records: one, or none if it has no record
abbrev pub pieces_of_archive : ℕ → ℕ → List Piece
pieces_of_archive len zero = []
pieces_of_archive len count = Records 0 len count ∷ []

-- an archive is one piece, or none
abbrev pub ArchiveIsOnePiece : Type 0
ArchiveIsOnePiece = (bytes : List ℕ) (rows : List Row) → IsArchiveOf bytes rows
    → ArePieces bytes (pieces_of_archive (length bytes) (length rows))

-- the first of these pieces is `count` good records of `len` bytes; or none of records is first, and both are 0
abbrev pub BeginWith : List Piece → ℕ → ℕ → Type 0
BeginWith (Records offset size number ∷ pieces) len count = (size ≡ len) × (number ≡ count)
BeginWith pieces len count = (0 ≡ len) × (0 ≡ count)

-- the longest list of good records that bytes begin with is the first piece, if that is one of records, and else empty
abbrev pub FrontIsFirstPiece : Type 0
FrontIsFirstPiece = (bytes : List ℕ) (rows : List Row) (pieces : List Piece) (is : IsLongestFront (near bytes) rows)
    → ArePieces bytes pieces → BeginWith pieces (length is.front) (length rows)

-- the bytes of all pieces of records, joined
abbrev pub salvaged : List ℕ → List Piece → List ℕ
salvaged bytes [] = []
salvaged bytes (Records offset len count ∷ pieces) = take len (drop offset bytes) ++ salvaged bytes pieces
salvaged bytes (Damage offset len fault ∷ pieces) = salvaged bytes pieces

-- these are the records of all pieces of records, in order
abbrev pub HaveRecords : List ℕ → List Piece → List Record → Type 0
HaveRecords bytes [] records = records ≡ []
HaveRecords bytes (Records offset len count ∷ pieces) records =
    (here more : List Record) × (records ≡ here ++ more) × SpellsAll here (take len (drop offset bytes))
    × (length here ≡ count) × HaveRecords bytes pieces more
HaveRecords bytes (Damage offset len fault ∷ pieces) records = HaveRecords bytes pieces records

-- the joined bytes are an archive of exactly these records
abbrev pub SalvagedIsAnArchive : Type 0
SalvagedIsAnArchive = (bytes : List ℕ) (pieces : List Piece) → ArePieces bytes pieces
    → (rows : List Row) × (is : IsArchiveOf (salvaged bytes pieces) rows)
    × HaveRecords bytes pieces (contents is.are.records) × (length rows ≡ sum_by count_in pieces)

-- a piece, if `n` bytes are put before the bytes
abbrev pub moved : ℕ → Piece → Piece
moved n (Records offset len count) = Records (n + offset) len count
moved n (Damage offset len fault) = Damage (n + offset) len (following n fault)

-- a piece and those after it: two runs that meet are one piece
abbrev pub meets : Piece → List Piece → List Piece
meets (Records offset len count) (Records start more others ∷ pieces) =
    Records offset (len + more) (count + others) ∷ pieces
meets piece pieces = piece ∷ pieces

-- pieces and those after them: two runs that meet are one piece
abbrev pub merged : List Piece → List Piece → List Piece
merged [] pieces = pieces
merged (piece ∷ []) pieces = meets piece pieces
merged (piece ∷ more) pieces = piece ∷ merged more pieces

-- the pieces of bytes with an archive put before them are those of the archive and those of the bytes
abbrev pub ArchivePutBefore : Type 0
ArchivePutBefore = (archive bytes : List ℕ) (rows : List Row) (its others : List Piece) → IsArchiveOf archive rows
    → length (archive ++ bytes) ≤ max_archive → ArePieces archive its → ArePieces bytes others
    → ArePieces (archive ++ bytes) (merged its (map (moved (length archive)) others))
