-- Values side by side, one in each of the four lanes of a vector: states of the code.
use Rattle.std.specs.Prelude.{ℕ, ◌<◌, List, [], length, map, min, slice_index, slice_index_or}
use Rattle.std.specs.Borrow.{Bor}

-- holds in each lane
abbrev pub InEachLane : (ℕ → Type 0) → Type 0
InEachLane P = (lane : ℕ) → lane < 4 → P lane

-- the words of a lane
abbrev pub lane_of : ℕ → List (List ℕ) → List ℕ
lane_of lane vectors = map (λ vector. slice_index vector lane) vectors

-- the bytes in a lane
abbrev pub bytes_in : ℕ → List (Bor (List ℕ)) → List ℕ
bytes_in lane pieces = slice_index_or (map (λ piece. piece.now) pieces) lane []

-- the length of the shortest of four pieces
abbrev pub shortest : List (Bor (List ℕ)) → ℕ
shortest pieces =
    min (min (length (bytes_in 0 pieces)) (length (bytes_in 1 pieces)))
    (min (length (bytes_in 2 pieces)) (length (bytes_in 3 pieces)))
