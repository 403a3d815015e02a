-- What the code keeps, and how. Callers need none of it.
use Rattle.std.specs.Prelude.{◌≡◌, ℕ, zero, suc, ◌+◌, ◌-◌, ◌<◌, ◌==◌, Bool, false, List, [], ◌∷◌, ◌++◌, length, map, take, drop, All}
use Rattle.std.specs.List.{concat, Contains, AllPairs}
use Rattle.std.specs.Cmp.Lexicographic.{slice_cmp}
use Rattle.std.specs.Ordering.{nat_cmp, ordering_then}
use Rattle.std.specs.declared.cmp.Ordering.{Ordering}
use Rattle.warc_order.specs.declared.mark.Mark.{Mark}
use Rattle.warc_order.specs.declared.slot.Slot.{Slot}
use Rattle.warc_order.specs.Hashes.{hash_of}
use Rattle.warc_order.specs.Ranking.{IsRanked}
use Rattle.warc_order.specs.Entries.{Entry, entry_at, entry_of}
use Rattle.warc_order.specs.Columns.{Sparse, values}

-- ---- entries as columns and bytes

abbrev pub texts_of : List Entry → List (List ℕ)
texts_of es = map (λ e. e.text) es

-- the bytes of all texts, and for each entry the end of its text, the two numbers of its mark, and its position
pub record Parts : Type 0 where
  pub ends : List ℕ
  pub bytes : List ℕ
  pub majors : List ℕ
  pub minors : List ℕ
  pub positions : List ℕ

-- what the blanks of columns mean: 0, and the entry's own index
abbrev pub no_number : ℕ → ℕ
no_number i = 0

abbrev pub own_index : ℕ → ℕ
own_index i = i

abbrev pub parts_in : List ℕ → List ℕ → Sparse ℕ → Sparse ℕ → Sparse ℕ → Parts
parts_in ends bytes majors minors positions = record {
  ends = ends;
  bytes = bytes;
  majors = values no_number majors;
  minors = values no_number minors;
  positions = values own_index positions;
}

-- the ends of texts, the first of which begins at `from`
abbrev pub ends_of : ℕ → List Entry → List ℕ
ends_of from [] = []
ends_of from (e ∷ es) = (from + length e.text) ∷ ends_of (from + length e.text) es

-- the parts of entries
abbrev pub parts_of : List Entry → Parts
parts_of es = record {
  ends = ends_of 0 es;
  bytes = concat (texts_of es);
  majors = map (λ e. e.mark.major) es;
  minors = map (λ e. e.mark.minor) es;
  positions = map (λ e. e.position) es;
}

-- the entries of parts, where the bytes begin at `from`
abbrev pub entries_at : ℕ → (ends bytes majors minors positions : List ℕ) → List Entry
entries_at from (end ∷ ends) bytes (major ∷ majors) (minor ∷ minors) (position ∷ positions) =
    entry_of (take (end - from) bytes) (record { major = major; minor = minor }) position
    ∷ entries_at end ends (drop (end - from) bytes) majors minors positions
entries_at from _ bytes _ _ _ = []

abbrev pub entries_of : Parts → List Entry
entries_of p = entries_at 0 p.ends p.bytes p.majors p.minors p.positions

-- parts hold just these entries
abbrev pub IsFlat : Parts → List Entry → Type 0
IsFlat p es = p ≡ parts_of es

-- ---- the order of slots

abbrev pub mark_cmp : Mark → Mark → Ordering
mark_cmp a b = ordering_then (nat_cmp a.major b.major) (nat_cmp a.minor b.minor)

-- a text, its hash and a mark
pub record Key : Type 0 where
  pub hash : ℕ
  pub text : List ℕ
  pub mark : Mark

-- by hash, then by text
abbrev pub text_cmp : Key → Key → Ordering
text_cmp a b = ordering_then (nat_cmp a.hash b.hash) (slice_cmp nat_cmp a.text b.text)

abbrev pub key_cmp : Key → Key → Ordering
key_cmp a b = ordering_then (text_cmp a b) (mark_cmp a.mark b.mark)

-- the key of a slot
abbrev pub key_at : List Entry → Slot → Key
key_at es s = record { hash = s.hash; text = (entry_at es s.index).text; mark = (entry_at es s.index).mark }

-- the key of a text
abbrev pub key_for : List ℕ → Mark → Key
key_for text mark = record { hash = hash_of text; text = text; mark = mark }

-- by key, then by index
abbrev pub slot_order : List Entry → Slot → Slot → Ordering
slot_order es a b = ordering_then (key_cmp (key_at es a) (key_at es b)) (nat_cmp a.index b.index)

-- the slot of the i-th entry
abbrev pub slot_for : List Entry → ℕ → Slot
slot_for es i = record { hash = hash_of (entry_at es i).text; index = i }

-- the slots of the first n entries, as they were added
abbrev pub slots_of : List Entry → ℕ → List Slot
slots_of es zero = []
slots_of es (suc n) = slots_of es n ++ slot_for es n ∷ []

-- a slot of one of the first n entries
pub record IsSlotOf (es : List Entry) (n : ℕ) (s : Slot) : Type 0 where
  pub index : s.index < n
  pub slot : s ≡ slot_for es s.index

abbrev pub same_index : Slot → Slot → Bool
same_index a b = a.index == b.index

-- the slots of the first n entries, in their order
pub record IsOrderOf (es : List Entry) (n : ℕ) (ss : List Slot) : Type 0 where
  pub ranked : IsRanked (slot_order es) ss
  pub within : All (IsSlotOf es n) ss
  pub all : (q : ℕ) → q < n → Contains ss (slot_for es q)
  pub distinct : AllPairs (λ a b. same_index a b ≡ false) ss

-- positions rise
abbrev pub IsGrowing : List Entry → Type 0
IsGrowing es = AllPairs (λ a b. a.position < b.position) es

-- what the parts of an order are to each other
pub record IsOrdered (es : List Entry) (ss : List Slot) : Type 0 where
  pub growing : IsGrowing es
  pub order : IsOrderOf es (length es) ss

-- entries that wait to be put in order, and their slots as they were added
pub record AreWaiting (es : List Entry) (ss : List Slot) : Type 0 where
  pub growing : IsGrowing es
  pub slots : ss ≡ slots_of es (length es)
