use Rattle.std.proofs.Common.{◌≡◌, Option, Some, refl, sym, ap, subst, ◌∙◌}
use Rattle.warc_reading.specs.declared.stream.Current.{Current as Kept}
use Rattle.warc_reading.proofs.stream.StreamState.take_part.Goals as goal

pub returns-in-Some-clause-current : goal.returns-in-Some-clause-current
returns-in-Some-clause-current g c = λ kept is.
    let K = Kept g.row.A.Denot g.row.B.Denot in
    let same : ◌≡◌ {A = K} c.in-Some.current kept = let e : ◌≡◌ {A = Option K} (Some c.in-Some.current) (Some kept) = sym c.in-Some.is ∙ is in cc in (
      _,
      refl,
      ap (λ (x : K). x.head) same,
      ap (λ (x : K). x.block_start) same,
      ap (λ (x : K). x.block_len) same,
      λ fields bytes seen.
          let S : K → Type 0 = λ x. g.B.TakeBlock.has_seen x.block fields bytes in
          c.take_part.ensures fields bytes (subst S (sym same) seen),
    )
