-- What is read where a record's head is.
use Rattle.std.proofs.Common.{◌≡◌, inl, ℕ, ◌+◌, ◌-◌, ◌≤◌, List, length, take, drop, slice_range, Option, Some, None, Result, Ok, Err, IfOk, MatchResult, sym, ap, subst, ◌∙◌, arith}
use Rattle.warc_frame.specs.Reading.{Head, any_fields, head_of}
use Rattle.warc_frame.specs.declared.fault.Fault.{Fault}
use Rattle.warc_frame.specs.Effects.{FailsBy}
use Rattle.warc_frame.specs.Failing.{HasFailedBy, MayHaveFailedBy}
use Rattle.warc_frame.specs.Seen.{SeenSource}
use Rattle.warc_frame.specs.declared.fault.OutFault.{OutFault}
use Rattle.warc_frame.specs.Send.{early_result, ended_by}
use Rattle.warc_reading.specs.Rereading.{HasHead, HasHeadOf, HasRoomFor, IsHeadBy}
use Rattle.warc_field.specs.Area.{Pair}
use Rattle.warc_frame.specs.declared.version.Version.{Version}
use Rattle.warc_reading.specs.Row.{Placed, Row, row_of}
use Rattle.warc_frame.specs.declared.fault.EarlyFault.{EarlyFault}
use Rattle.warc_frame.specs.declared.fault.EarlyFault.TheVariants.{Memory, Read}

-- how long the head is, by the row
pub len_by_row : (bytes : List ℕ) (p : Placed) (row : Row) (has : HasHead bytes p) → row ≡ row_of p → row.block_start ≡ row.offset + has.len
len_by_row bytes p row has same = ap (λ (r : Row). r.block_start) same ∙ has.start ∙ ap (λ (r : Row). r.offset + has.len) (sym same)

-- a buffer with room for the head of its row has room for it
pub head_fits : (row : Row) (bytes : List ℕ) (p : Placed) (buf : List ℕ) (has : HasHead bytes p) → row ≡ row_of p → HasRoomFor row buf
    → has.len ≤ length buf
head_fits row bytes p buf has same room = omega (arith, has.short, len_by_row bytes p row has same, room)

pub len_is : (o : Option ℕ) (len n : ℕ) → o ≡ Some n → o ≡ Some len → len ≡ n
len_is o len n a b = cc

pub len_is_there : (o : Option ℕ) (n : ℕ) → o ≡ Some n → o ≡ None → ⊥
len_is_there o n a b = cc

-- the text that was read there is read as the head
pub reads_head : (bytes text : List ℕ) (p : Placed) (row : Row) (len : ℕ) (has : HasHead bytes p) → row ≡ row_of p → len ≡ has.len
    → text ≡ take len (drop row.offset bytes) → length text ≡ len
    → head_of any_fields text ≡ Ok (record { version = p.content.version; fields = p.content.fields; len = length text; block_len = row.block_len })
reads_head bytes text p row len has same len_is text_is size =
    let at : row.offset ≡ p.offset = ap (λ (r : Row). r.offset) same in
    let block : row.block_len ≡ length p.content.block = ap (λ (r : Row). r.block_len) same in
    let whole : len ≡ p.block_start - p.offset = omega (arith, len_is, has.start) in
    let is : text ≡ slice_range bytes p.offset p.block_start = text_is ∙ ap (λ q. take len (drop q bytes)) at ∙ ap (λ n. take n (drop p.offset bytes)) whole in
    let n : has.len ≡ length text = sym (size ∙ len_is) in
    let to : ℕ → ℕ → Result Head Fault = λ m k. Ok (record { version = p.content.version; fields = p.content.fields; len = m; block_len = k }) in
    ap (head_of any_fields) is ∙ has.reads ∙ ap (λ m. to m (length p.content.block)) n ∙ ap (to (length text)) (sym block)

pub read_or_memory : {X : Type 0} (r : Result X EarlyFault) (P : X → Type 0) → MatchResult r P (λ fault. fault ≡ Memory) → IfOk r P
read_or_memory (Ok x) P is = is
read_or_memory (Err e) P is = tt

-- a failed allocation isn't a failure of the source
pub only_memory : {X : Type 0} (r : Result X EarlyFault) (P : X → Type 0) (old new : ℕ)
    → MatchResult r P (λ fault. fault ≡ Memory) → new ≡ old → HasFailedBy (early_result r) old new
only_memory (Ok x) P old new is same = same
only_memory (Err e) P old new is same =
    subst (λ (f : EarlyFault). HasFailedBy {X = Unit {0}} (Err (ended_by f 0)) old new) (sym is) same

-- a source that hasn't failed may give something else
pub may_be_sound : {X : Type 0} (r : Result X EarlyFault) (old new : ℕ) → new ≡ old
    → MayHaveFailedBy (early_result r) old new
may_be_sound (Ok x) old new same = same
may_be_sound (Err Read) old new same = inl same
may_be_sound (Err Memory) old new same = same

-- a head that isn't read again, as the end of an output
pub fails_ended : {X : Type 0} {Expected : List ℕ → Type 0} {old new : SeenSource} (fault : EarlyFault) (e : OutFault)
    (n : ℕ) → e ≡ ended_by fault n → FailsBy {X = Unit {0}} Expected (Err (ended_by fault 0)) old new
    → FailsBy {X = X} Expected (Err e) old new
fails_ended {X} {Expected} {old} {new} Read e n is has =
    let P : OutFault → Type 0 = λ f. FailsBy {X = X} Expected (Err f) old new in
    subst P (sym is) (record { may = has.may; failed = has.failed })
fails_ended {X} {Expected} {old} {new} Memory e n is has =
    let P : OutFault → Type 0 = λ f. FailsBy {X = X} Expected (Err f) old new in
    subst P (sym is) (record { may = has.may; failed = has.failed })

-- a row's head is among the bytes
pub head_reaches : (bytes : List ℕ) (inside now : Row) (len n : ℕ) → inside ≡ now → n ≡ len
    → now.offset + len ≡ now.block_start → HasHeadOf now bytes → inside.offset + n ≤ length bytes
head_reaches bytes inside now len n same size end is =
    let at : inside.offset ≡ now.offset = ap (λ (r : Row). r.offset) same in
    let start : now.block_start ≡ is.placed.block_start = ap (λ (r : Row). r.block_start) is.row_is in
    omega (arith, at, size, end, start, is.has.within)

-- a text that is read as a head by a row
pub head_by : (row now : Row) (version : Version) (fields : List Pair) (text : List ℕ) → row ≡ now → now.offset + length text ≡ now.block_start
    → head_of any_fields text ≡ Ok (record { version = version; fields = fields; len = length text; block_len = row.block_len }) → IsHeadBy now fields
head_by row now version fields text same size reads =
    let to : Row → Result Head Fault = λ r. Ok (record { version = version; fields = fields; len = length text; block_len = r.block_len }) in
    record { version = version; text = text; size = size; reads = reads ∙ ap to same }
