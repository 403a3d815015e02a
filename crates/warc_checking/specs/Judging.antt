-- What is found of records of which the last ones wait until their blocks are hashed. States of the code: no public
-- clause cites them.
use Rattle.std.specs.Prelude.{◌≡◌, ℕ, ◌-◌, ◌++◌, Bool, true, false, List, [], ◌∷◌, length, map, take, drop, None, Result, Ok, MatchResult}
use Rattle.warc_field.specs.Area.{Pair}
use Rattle.warc_value.specs.Digests.{is_bad}
use Rattle.warc_value.specs.declared.hash.Verdict.{Verdict}
use Rattle.warc_value.specs.declared.hash.Wanted.{Wanted}
use Rattle.warc_frame.specs.Reading.{any_fields, head_of}
use Rattle.warc_frame.specs.Record.{Record}
use Rattle.warc_record.specs.Findings.{SeenFinding}
use Rattle.warc_record.specs.Heads.{head_fault}
use Rattle.warc_record.specs.Readings.{digest_wanted}
use Rattle.warc_frame.specs.declared.fault.EarlyFault.{EarlyFault}
use Rattle.warc_frame.specs.declared.fault.EarlyFault.TheVariants.{Memory}
use Rattle.warc_checking.specs.OwnFindings.{Found, all_of, shown_by, with_bad}

-- what a record shows, once it is known whether its digest differs
abbrev pub found_by : Found → Bool → Found
found_by f true = with_bad f
found_by f false = f

abbrev pub each_found_by : List Found → List Verdict → List Found
each_found_by [] verdicts = []
each_found_by (f ∷ fs) [] = f ∷ fs
each_found_by (f ∷ fs) (v ∷ vs) = found_by f (is_bad v) ∷ each_found_by fs vs

-- what records show, by the verdicts on the blocks of the last ones
abbrev pub settled : List Found → List Verdict → List Found
settled found verdicts = take (length found - length verdicts) found
    ++ each_found_by (drop (length found - length verdicts) found) verdicts

-- their findings
abbrev pub all_shown : List Found → List Verdict → List (List SeenFinding)
all_shown found verdicts = map all_of (settled found verdicts)

-- one more record was added, with these fields and a block of this length; its digest isn't known to differ
abbrev pub IsOneMore : List Pair → ℕ → List Found → List Found → Type 0
IsOneMore fields block_len old new = new ≡ old ++ shown_by fields block_len false ∷ []

-- a text that is a good head of a block of this length is answered by the digest that it asks for, and its record is
-- added, unless memory ran out
abbrev pub AddsGoodHead : List ℕ → ℕ → List Found → List Found → Result Wanted EarlyFault → Type 0
AddsGoodHead text block_len old new answer =
    (r : Record)
    → head_of any_fields text
    ≡ Ok (record { version = r.version; fields = r.fields; len = length text; block_len = block_len })
    → head_fault r.fields ≡ None
    → MatchResult answer (λ wanted. (wanted ≡ digest_wanted r.fields) × IsOneMore r.fields block_len old new)
    (λ e. e ≡ Memory)
