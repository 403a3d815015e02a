use Rattle.std.proofs.Common.{rules, false, [], ◌∷◌, ◌++◌, subst, ◌≡◌, ◌+◌, ◌-◌, ◌<◌, ◌≤◌, ◌^◌, List, length, take, drop, get_or, arith, sym, ap, ◌∙◌}
use Rattle.std.proofs.Math.Seq.{drop-nil, take-length}
use Rattle.warc_value.specs.declared.hash.Wanted.TheVariants.{Sha1}
use Rattle.warc_segment.specs.declared.place.Place.{Place}
use Rattle.std.proofs.lemmas.List.Elements.{All-nil}
use Rattle.warc_answer.specs.Located.{AreInside, spans_text}
use Rattle.warc_answer.specs.Places.{text_at}
use Rattle.warc_answer.specs.declared.located.Span.{Span}
use Rattle.warc_answer.proofs.LocatedLemmas.{span_more, within_more}
use Rattle.warc_answer.proofs.PlaceLemmas.{lies, text_len}
use Rattle.warc_answer.proofs.located.cut_front.Goals as goal

abbrev none : Place
none = record { start = 0; len = 0; wanted = Sha1 []; truncated = false }

pub cutting-init : goal.cutting-init
cutting-init g c =
    let empty : c.new-spans.result.items ≡ [] = search rules in
    record {
      left = λ bytes lie. omega arith;
      text = λ bytes lie. ap (λ (l : List Span). spans_text l bytes) empty ∙ sym (drop-nil c.args.skip);
      within = λ bytes lie. subst (λ (l : List Span). AreInside l bytes) (sym empty) (All-nil (λ (s : Span). s.start + s.len ≤ length bytes));
    }

pub cutting-preserved : goal.cutting-preserved
cutting-preserved g c =
    let i = c.cutting.place-index in
    let places = c.args.places.now in
    let p : Place = get_or places i none in
    let lt : i < length places = omega (arith, c.cutting-test.true) in
    let x : Span = record { start = c.saturating_add.result; len = p.len - c.min-gone.result } in
    let pushed : c.push.new.self.items ≡ c.cutting.spans.items ++ x ∷ [] = search rules in
    record {
      left = λ bytes lie. omega (arith, text_len bytes places i none lie lt, c.cutting.invariant.left bytes lie, c.min-gone.ensures);
      text = λ bytes lie.
          let here : p.start + p.len ≤ length bytes = lies bytes places i none lie lt in
          let short : length bytes < 2 ^ 64 = lie.short in
          let at : c.saturating_add.result ≡ p.start + c.min-gone.result = omega (arith, c.saturating_add.ensures, c.min-gone.ensures) in
          ap (λ (l : List Span). spans_text l bytes) pushed ∙ span_more bytes places c.cutting.spans.items c.args.skip c.cutting.left c.min-gone.result c.saturating_add.result i none lie lt
          (c.cutting.invariant.left bytes lie) c.min-gone.ensures at (c.cutting.invariant.text bytes lie);
      within = λ bytes lie.
          let here : p.start + p.len ≤ length bytes = lies bytes places i none lie lt in
          let short : length bytes < 2 ^ 64 = lie.short in
          let at : c.saturating_add.result ≡ p.start + c.min-gone.result = omega (arith, c.saturating_add.ensures, c.min-gone.ensures) in
          subst (λ (l : List Span). AreInside l bytes) (sym pushed)
          (within_more bytes places c.cutting.spans.items c.cutting.left c.min-gone.result c.saturating_add.result i none lie lt
          c.min-gone.ensures at (c.cutting.invariant.within bytes lie));
    }

pub returns-clause-text : goal.returns-clause-text
returns-clause-text g c = λ bytes lie.
    let i = c.cutting.place-index in
    let places = c.args.places.now in
    let end : i ≡ length places = omega (arith, c.cutting-test.false, c.cutting.auto.place-index-end) in
    let all : take i places ≡ places = ap (λ k. take k places) end ∙ take-length places in
    c.cutting.invariant.text bytes lie ∙ ap (λ (ps : List Place). drop c.args.skip (text_at ps bytes)) all
