-- Lines of JSON, read again.
use Rattle.std.proofs.Common.{◌≡◌, ℕ, zero, suc, ◌<◌, ◌≤◌, Bool, true, false, List, [], ◌∷◌, max, Some, refl, subst, sym, arith}
use Rattle.std.specs.List.{All}
use Rattle.std.specs.Str.{is_utf8}
use Rattle.json.specs.Json.{Json, document, object}
use Rattle.json.specs.Print.{print}
use Rattle.json.specs.Tree.{depth, members_depth, HasNumbers, MembersHaveNumbers, json_tokens}
use Rattle.json.proofs.Printed.Decimals.{IsNumber-decimal}
use Rattle.json.proofs.Printed.Trees.{document-print}
use Rattle.warc_json.specs.Objects.{SeenValue, Null, Number, Text, IsWord, json_of, json_members}

text_numbers : (text : List ℕ) (b : Bool) → is_utf8 text ≡ b → HasNumbers (json_of (Text text))
text_numbers text true is = rw is tt
text_numbers text false is = rw is (tt, tt)

value_numbers : (v : SeenValue) → IsWord v → HasNumbers (json_of v)
value_numbers Null fits = tt
value_numbers (Number n) fits = IsNumber-decimal n fits
value_numbers (Text text) fits = text_numbers text (is_utf8 text) refl

members_numbers : (ms : List (List ℕ × SeenValue)) → All (λ m. IsWord m.1) ms → MembersHaveNumbers (json_members ms)
members_numbers [] all = tt
members_numbers (m ∷ ms) all = (value_numbers m.1 (all 0 m (omega arith)), members_numbers ms (λ k d inside. all (suc k) d (omega (arith, inside))))

text_depth : (text : List ℕ) (b : Bool) → is_utf8 text ≡ b → depth (json_of (Text text)) ≤ 1
text_depth text true is = rw is (omega arith)
text_depth text false is = rw is (omega arith)

value_depth : (v : SeenValue) → depth (json_of v) ≤ 1
value_depth Null = omega arith
value_depth (Number n) = omega arith
value_depth (Text text) = text_depth text (is_utf8 text) refl

depth_of_members : (ms : List (List ℕ × SeenValue)) → members_depth (json_members ms) ≤ 1
depth_of_members [] = omega arith
depth_of_members (m ∷ ms) = omega (arith, value_depth m.1, depth_of_members ms)

pub reads_back : (ms : List (List ℕ × SeenValue)) → All (λ m. IsWord m.1) ms
    → document (print (json_tokens (object (json_members ms)))) ≡ Some (object (json_members ms))
reads_back ms all = document-print (object (json_members ms)) (members_numbers ms all) (omega (arith, depth_of_members ms))
