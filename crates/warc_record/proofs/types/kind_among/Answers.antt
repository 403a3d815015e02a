use Rattle.std.proofs.Common.{ℕ, List, [], Bor, Option, sym, ap, ◌∙◌}
use Rattle.std.specs.Option.{option_map_or}
use Rattle.std.specs.Str.{str_eq_ignore_ascii_case}
use Rattle.warc_record.specs.declared.types.Kind.{Kind}
use Rattle.warc_record.specs.declared.types.Kind.TheVariants.{Other, Warcinfo}
use Rattle.warc_record.proofs.KindLemmas.{found_here, missed_here}
use Rattle.warc_record.proofs.types.kind_among.Goals as goal

pub returns-then-is_name_of : goal.returns-then-is_name_of
returns-then-is_name_of c =
    let hit = sym c.is_name_of.ensures ∙ c.if-is_name_of.true in
    let found = found_here (λ (entry : Bor (List ℕ) × Kind). str_eq_ignore_ascii_case c.args.text.now entry.0.now) c.args.types.now c.loop-name.name-index (record { ref_ptr = (0, 0); now = [] }, Warcinfo)
    c.loop-name-test.true hit c.loop-name.invariant.left in
    sym (ap (λ (o : Option (Bor (List ℕ) × Kind)). option_map_or (λ entry. entry.1) o Other) found)

pub loop-name-preserved : goal.loop-name-preserved
loop-name-preserved c = record {
  left =
      let miss = sym c.is_name_of.ensures ∙ c.if-is_name_of.false in
      missed_here (λ (entry : Bor (List ℕ) × Kind). str_eq_ignore_ascii_case c.args.text.now entry.0.now) c.args.types.now c.loop-name.name-index (record { ref_ptr = (0, 0); now = [] }, Warcinfo)
      c.loop-name-test.true miss c.loop-name.invariant.left;
}
