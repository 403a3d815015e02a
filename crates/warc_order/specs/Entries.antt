-- Entries: texts with marks and positions, and which of them a look-up finds.
use Rattle.std.specs.Prelude.{◌≡◌, ℕ, Bool, true, false, not, ◌&&◌, ◌||◌, ◌==◌, nat_lt, List, [], slice_index_or}
use Rattle.std.specs.List.{Contains}
use Rattle.warc_order.specs.declared.mark.Mark.{Mark}

-- a text, a mark and a position
pub record Entry : Type 0 where
  pub text : List ℕ
  pub mark : Mark
  pub position : ℕ

abbrev pub no_entry : Entry
no_entry = record { text = []; mark = record { major = 0; minor = 0 }; position = 0 }

abbrev pub entry_of : List ℕ → Mark → ℕ → Entry
entry_of text mark position = record { text = text; mark = mark; position = position }

-- the i-th entry, the first being the 0th
abbrev pub entry_at : List Entry → ℕ → Entry
entry_at es i = slice_index_or es i no_entry

-- a mark is below another: by its major number, then by its minor one
abbrev pub mark_lt : Mark → Mark → Bool
mark_lt a b = nat_lt a.major b.major || (a.major == b.major && nat_lt a.minor b.minor)

-- an entry is later than another: by its mark, then by its position
abbrev pub comes_later : Entry → Entry → Bool
comes_later a b = mark_lt b.mark a.mark || (not (mark_lt a.mark b.mark) && nat_lt b.position a.position)

-- entries of a text whose marks aren't above one, and those whose marks aren't below one
pub record IsUpTo (text : List ℕ) (mark : Mark) (e : Entry) : Type 0 where
  pub text_is : e.text ≡ text
  pub up_to : mark_lt mark e.mark ≡ false

pub record IsFrom (text : List ℕ) (mark : Mark) (e : Entry) : Type 0 where
  pub text_is : e.text ≡ text
  pub from : mark_lt e.mark mark ≡ false

-- entries of the same text that are later than one, and those that it is later than
pub record IsAfter (one e : Entry) : Type 0 where
  pub text_is : e.text ≡ one.text
  pub later : comes_later e one ≡ true

pub record IsBefore (one e : Entry) : Type 0 where
  pub text_is : e.text ≡ one.text
  pub later : comes_later one e ≡ true

-- an entry that passes and is later than no other that does
pub record IsFirst (es : List Entry) (Passes : Entry → Type 0) (e : Entry) : Type 0 where
  pub is_present : Contains es e
  pub passes : Passes e
  pub first : (q : Entry) → Contains es q → Passes q → comes_later e q ≡ false

-- an entry that passes, and no other that does is later
pub record IsLast (es : List Entry) (Passes : Entry → Type 0) (e : Entry) : Type 0 where
  pub is_present : Contains es e
  pub passes : Passes e
  pub last : (q : Entry) → Contains es q → Passes q → comes_later q e ≡ false

-- entries of a position, of which an order has at most one
pub record HasPosition (position : ℕ) (e : Entry) : Type 0 where
  pub position_is : e.position ≡ position

-- the text of an entry of a position
pub record IsTextAt (es : List Entry) (position : ℕ) (text : List ℕ) : Type 0 where
  pub entry : Entry
  pub is_present : Contains es entry
  pub has_position : HasPosition position entry
  pub text_is : entry.text ≡ text

-- no entry passes
abbrev pub IsNone : List Entry → (Entry → Type 0) → Type 0
IsNone es Passes = (q : Entry) → Contains es q → Passes q → ⊥
