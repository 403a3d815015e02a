use Rattle.std.proofs.Common.{List, Ok, Err, Result, sym, ◌∙◌, ℕ}
use Rattle.warc_field.specs.Area.{Pair, Reads, SpellsFields, ReportsBadLine, area_of}
use Rattle.warc_field.specs.declared.area.AreaFault.{AreaFault}
use Rattle.warc_field.specs.declared.area.AreaFault.TheVariants.{Line, Memory}
use Rattle.warc_field.proofs.FaultLemmas.{read-first_bad_line}
use Rattle.warc_field.proofs.SpellLemmas.{area-spells, area-reads}
use Rattle.std.specs.Result.{IfOk, IfErr}
use Rattle.warc_field.proofs.area.read_area.Goals as goal

found_at : (r : Result (List Pair) AreaFault) (area : List ℕ) → Reads (λ f. f) r (area_of area) → IfOk r (λ fields. SpellsFields fields area)
found_at (Ok fields) area h = area-spells area fields h
found_at (Err e) area h = tt

only_at : (r : Result (List Pair) AreaFault) (area : List ℕ) (fields : List Pair) → Reads (λ f. f) r (area_of area) → SpellsFields fields area → Reads (λ f. f) r (Ok fields)
only_at (Ok x) area fields h spells = sym (area-reads area fields spells) ∙ h
only_at (Err Memory) area fields h spells = tt
only_at (Err (Line at)) area fields h spells = sym (area-reads area fields spells) ∙ h

bad_at : (r : Result (List Pair) AreaFault) (area : List ℕ) → Reads (λ f. f) r (area_of area) → IfErr r (ReportsBadLine area)
bad_at (Ok fields) area h = tt
bad_at (Err Memory) area h = tt
bad_at (Err (Line at)) area h = read-first_bad_line area at h

pub returns-clause-bad : goal.returns-clause-bad
returns-clause-bad g c = bad_at _ _ c.read_area_in.ensures.exact

pub returns-clause-found : goal.returns-clause-found
returns-clause-found g c = found_at _ _ c.read_area_in.ensures.exact

pub returns-clause-only : goal.returns-clause-only
returns-clause-only g c = λ fields spells. only_at _ _ fields c.read_area_in.ensures.exact spells
