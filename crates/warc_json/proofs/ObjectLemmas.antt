-- The text of an object, put together from its parts.
use Rattle.std.proofs.Common.{◌≡◌, ℕ, ◌+◌, ◌<◌, Bool, true, false, List, [], ◌∷◌, ◌++◌, length, take, get_or, map, append_assoc, codes, decimal, nat_lt, refl, sym, ap, ◌∙◌, arith}
use Rattle.std.proofs.lemmas.Bool.{lt-ltb}
use Rattle.std.proofs.lemmas.List.{append-nil, get_or-map, length-map}
use Rattle.std.specs.Borrow.{Bor}
use Rattle.std.specs.Str.{is_utf8}
use Rattle.hex.specs.Hex.{encode_lower}
use Rattle.json.specs.Json as json
use Rattle.json.specs.Print.{escape_byte, print, print_from, quoted}
use Rattle.json.specs.Token.{Token}
use Rattle.json.specs.Tree.{json_tokens, members_tokens}
use Rattle.warc_json.specs.Objects.{SeenValue, Null, Number, Text, hex_value, json_of, member_seen, json_members, object_line}
use Rattle.warc_json.specs.Parts.{comma_if, hex_text, member_text, members_text, value_text}
use Rattle.warc_json.specs.declared.objects.Value.{Value}
use Rattle.warc_json.proofs.EachLemmas.{each, each_more}

-- a value after the colon of its key
print_hex : (bytes : List ℕ) (ts : List Token) → print_from false (json_tokens (hex_value bytes) ++ ts) ≡ hex_text bytes ++ print_from true ts
unfolding print_from escape_byte
print_hex bytes ts = simp append_assoc

print_text : (text : List ℕ) (ts : List Token) (b : Bool) → is_utf8 text ≡ b → print_from false (json_tokens (json_of (Text text)) ++ ts) ≡ value_text (Text text) ++ print_from true ts
unfolding print_from
print_text text ts true is = rw is refl
print_text text ts false is = rw is (print_hex text ts)

print_value : (v : SeenValue) (ts : List Token) → print_from false (json_tokens (json_of v) ++ ts) ≡ value_text v ++ print_from true ts
unfolding print_from
print_value Null ts = refl
print_value (Number n) ts = refl
print_value (Text text) ts = print_text text ts (is_utf8 text) refl

-- a member, and what follows it
print_member : (later : Bool) (m : List ℕ × SeenValue) (ts : List Token)
    → print_from later (Token.key m.0 ∷ (json_tokens (json_of m.1) ++ ts)) ≡ member_text later m ++ print_from true ts
unfolding print_from
print_member true m ts = ap (λ l. 44 ∷ ((quoted m.0 ++ 58 ∷ []) ++ l)) (print_value m.1 ts) ∙ simp append_assoc
print_member false m ts = ap (λ l. (quoted m.0 ++ 58 ∷ []) ++ l) (print_value m.1 ts) ∙ simp append_assoc

abbrev pub placed_text : ℕ → List ℕ × SeenValue → List ℕ
placed_text n m = member_text (nat_lt 0 n) m

print_end : (later : Bool) → print_from later (Token.end_object ∷ []) ≡ 125 ∷ []
unfolding print_from
print_end true = refl
print_end false = refl

members_are : (n : ℕ) (ms : List (List ℕ × SeenValue)) → print_from (nat_lt 0 n) (members_tokens (json_members ms)) ≡ each placed_text n ms ++ 125 ∷ []
unfolding print_from
members_are n [] = print_end (nat_lt 0 n)
members_are n (m ∷ ms) =
    let rest = ap (λ b. print_from b (members_tokens (json_members ms))) (sym (lt-ltb 0 (n + 1) (omega arith))) ∙ members_are (n + 1) ms in
    print_member (nat_lt 0 n) m (members_tokens (json_members ms)) ∙ ap (λ l. placed_text n m ++ l) rest
    ∙ sym (append_assoc (placed_text n m) (each placed_text (n + 1) ms) (125 ∷ []))

-- an object on a line is its brace, its members, and the rest
pub object_is : (ms : List (List ℕ × SeenValue)) → codes "{" ++ (members_text ms ++ codes "}\n") ≡ object_line ms
unfolding print_from
object_is ms =
    ap (λ l. 123 ∷ l) (sym (append_assoc (members_text ms) (125 ∷ []) (10 ∷ [])) ∙ ap (λ l. l ++ 10 ∷ []) (sym (members_are 0 ms)))

-- one more member of the code
pub members_more : (output : List ℕ) (members : List (Bor (List ℕ) × Value)) (i : ℕ) (d : Bor (List ℕ) × Value) → i < length members
    → (output ++ members_text (take i (map member_seen members))) ++ placed_text i (member_seen (get_or members i d))
    ≡ output ++ members_text (take (i + 1) (map member_seen members))
members_more output members i d within =
    let ms = map member_seen members in
    ap (λ m. (output ++ members_text (take i ms)) ++ placed_text i m) (sym (get_or-map member_seen members i d (member_seen d) within))
    ∙ each_more placed_text output ms i (member_seen d) (omega (arith, within, length-map members member_seen))
