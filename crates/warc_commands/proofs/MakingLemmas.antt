-- The front of the bytes that a source holds, read piece by piece.
use Rattle.std.proofs.Common.{◌≡◌, ℕ, ◌+◌, ◌<◌, ◌≤◌, nat_lt, Bool, true, false, refl, List, ◌++◌, length, length-append, length-take, take, take_all, drop, Option, Some, Result, Err, sym, ap, subst, ◌∙◌, arith}
use Rattle.std.specs.Option.{IfSome}
use Rattle.std.proofs.Math.Seq.{take-add}
use Rattle.std.proofs.lemmas.Bool.{ltb-true}
use Rattle.std.proofs.lemmas.Bool.Decides.{nat_tests}
use Rattle.warc_frame.specs.Record.{Record, max_block}
use Rattle.warc_record.specs.Kinds.{kind_named}
use Rattle.warc_record.specs.declared.types.Kind.{Kind}
use Rattle.warc_write.specs.Making.{Makes, Plan}
use Rattle.warc_write.specs.declared.made.MakeFault.{MakeFault}
use Rattle.warc_write.specs.declared.made.MakeFault.TheVariants.{Date, Text, TooLong, Memory, Kind as BadKind}
use Rattle.warc_commands.specs.Program.{plan_of}
use Rattle.warc_arguments.specs.declared.command.Draft.{Draft}

-- one more piece
pub read_more : (bytes items next buf : List ℕ) (n : ℕ) → items ≡ take (length items) bytes → n ≤ length buf → next ≡ items ++ take n buf
    → take n buf ≡ take n (drop (length items) bytes) → next ≡ take (length next) bytes
read_more bytes items next buf n is short more same =
    let long : length items + n ≡ length next = omega (arith, ap (λ (l : List ℕ). length l) more, length-append items (take n buf), length-take n buf, short) in
    more ∙ ap (λ l. items ++ l) same ∙ ap (λ l. l ++ take n (drop (length items) bytes)) is ∙ sym (take-add (length items) n bytes)
    ∙ ap (λ k. take k bytes) long

-- as many as are wanted
pub read_most : (bytes items : List ℕ) (most : ℕ) → items ≡ take (length items) bytes → length items ≡ most → items ≡ take most bytes
read_most bytes items most is same = is ∙ ap (λ k. take k bytes) same

-- all bytes
pub read_all : (bytes items : List ℕ) (most : ℕ) → items ≡ take (length items) bytes → length items ≤ most → length bytes ≤ length items
    → items ≡ take most bytes
read_all bytes items most is within end =
    is ∙ take_all (length items) bytes end ∙ sym (take_all most bytes (omega (arith, within, end)))

-- a read that gives nothing reports the end
pub ended : (n at len room : ℕ) → (at < len → 0 < room → 0 < n) → n ≡ 0 → 0 < room → len ≤ at
ended n at len room some none more = by_test (nat_lt at len) refl
  where
    by_test : (b : Bool) → nat_lt at len ≡ b → len ≤ at
    by_test true e = absurd (omega (arith, none, some (ltb-true _ _ e) more))
    by_test false e = grind (arith, nat_tests)

-- what a record is made of, by what the words were read as
pub plan_is : (d : Draft) (bytes block : List ℕ) (kind : Kind) (uri date uuid content_type : List ℕ) → kind ≡ kind_named d.kind.now → uri ≡ d.uri.now
    → date ≡ d.date.now → uuid ≡ d.uuid.now → content_type ≡ d.content_type.now → block ≡ take (max_block + 1) bytes
    → ◌≡◌ {A = Plan} (record { kind = kind; uri = uri; date = date; uuid = uuid; content_type = content_type; block = block }) (plan_of d bytes)
plan_is d bytes block kind uri date uuid content_type a b c e f h i =
    record { kind = a i; uri = b i; date = c i; uuid = e i; content_type = f i; block = h i }

-- a file that is too long has more bytes than a block may have, as many of them as are read
pub stays_long : (bytes : List ℕ) → max_block < length bytes → max_block < length (take (max_block + 1) bytes)
stays_long bytes long = omega (arith, long, length-take (max_block + 1) bytes)

-- what isn't made is refused
pub refused : (fault : MakeFault) (made : Result Record MakeFault) → made ≡ Err fault → Makes (Err fault) made
refused Memory made is = tt
refused Date made is = is
refused Text made is = is
refused TooLong made is = is
refused BadKind made is = is

-- what a clause says of a value that is there
pub some_of : {X : Type 0} (P : X → Type 0) {o : Option X} {x : X} → o ≡ Some x → IfSome o P → P x
some_of P {o} {x} is fact = subst (λ o. IfSome o P) is fact
