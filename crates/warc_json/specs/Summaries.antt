-- What `summary --json` writes.
use Rattle.std.specs.Prelude.{ℕ, List, [], ◌∷◌, ◌++◌, map, codes, Option, Some, None, option_map}
use Rattle.warc_judged.specs.Summary.{summary_numbers}
use Rattle.warc_judged.specs.declared.summary.Summary.{Summary}
use Rattle.warc_json.specs.Objects.{SeenValue, Null, Number, Text, object_line}

-- an absent date is null
abbrev pub date_value : Option (List ℕ) → SeenValue
date_value None = Null
date_value (Some date) = Text date

abbrev pub number_member : List ℕ × ℕ → List ℕ × SeenValue
number_member named = (named.0, Number named.1)

-- one object: the numbers with their names, and then the two dates
unfoldable pub json_summary : Summary → List ℕ
json_summary s = object_line (
    map number_member (summary_numbers s)
    ++ (codes "first_date", date_value (option_map (λ d. d.now) s.first_date))
    ∷ (codes "last_date", date_value (option_map (λ d. d.now) s.last_date)) ∷ [])
