use Rattle.std.proofs.Common.{rules, ◌≡◌, [], ◌∷◌, ◌++◌, Option, Some, ap, sym, subst, ◌∙◌}
use Rattle.warc_reading.specs.Judging.{IsNextOf}
use Rattle.warc_reading.specs.Row.{Row}
use Rattle.warc_reading.specs.Stream.{row_by}
use Rattle.warc_reading.specs.declared.stream.Current.{Current as Kept}
use Rattle.warc_reading.proofs.GrowLemmas.{extends_front, extends_same}
use Rattle.warc_reading.proofs.stream.StreamState.end_record.Goals.{in-Some+in_ok-push+in-Ok, in_default}
use Rattle.warc_reading.proofs.stream.StreamState.end_record.Goals as goal

pub returns-clause-row : goal.returns-clause-row
returns-clause-row g c = elim c.match-take.branch [
  | in-Some+in_ok-push+in-Ok w ↦ λ kept is.
      let same : ◌≡◌ {A = Kept g.row.A.Denot g.row.B.Denot} w.in-Some.current kept = let e : ◌≡◌ {A = Option (Kept g.row.A.Denot g.row.B.Denot)} (Some w.in-Some.current) (Some kept) = w.in-Some.ensures.value ∙ is in cc in
      let row = ap (λ (x : Kept g.row.A.Denot g.row.B.Denot). row_by c.args.self.now.begin x) same in
      let texts = w.texts-texts.ensures in
      ap (λ r. r.rows) w.self-is ∙ w.in_ok-push.ensures.ok
      ∙ rw (texts.kind, texts.date, texts.id, texts.target, texts.truncated) (ap (λ (r : Row). c.args.self.now.rows ++ r ∷ []) row)
  | in_default w ↦ search rules
]

pub returns-clause-extends : goal.returns-clause-extends
returns-clause-extends g c = elim c.match-take.branch [
  | in-Some+in_ok-push+in-Ok w ↦ (_, ap (λ r. r.rows) w.self-is ∙ w.in_ok-push.ensures.ok)
  | in_default w ↦ search rules
]

pub returns-clause-beside : goal.returns-clause-beside
returns-clause-beside g c = elim c.match-take.branch [
  | in-Some+in_ok-push+in-Ok w ↦ λ kept records p is keeps count next seen.
      let same : ◌≡◌ {A = Kept g.row.A.Denot g.row.B.Denot} w.in-Some.current kept = let e : ◌≡◌ {A = Option (Kept g.row.A.Denot g.row.B.Denot)} (Some w.in-Some.current) (Some kept) = w.in-Some.ensures.value ∙ is in cc in
      let P : Kept g.row.A.Denot g.row.B.Denot → Type 0 = λ x. IsNextOf p x.head x.block_start x.block_len in
      let S : Kept g.row.A.Denot g.row.B.Denot → Type 0 = λ x. g.B.TakeBlock.has_seen x.block x.head p.content.block in
      let now = w.in-Ok.ensures.ok records p keeps (w.len-position.ensures ∙ count) (subst P (sym same) next) (subst S (sym same) seen) in
      subst (λ r. g.L.Keep.keeps r.beside (records ++ p ∷ [])) (sym w.self-is) now
  | in_default w ↦ search rules
]

pub returns-in-Err-clause-extends : goal.returns-in-Err-clause-extends
returns-in-Err-clause-extends g c =
    extends_same _ _ (c.truncate.ensures ∙ extends_front c.len-position.result c.args.self.now.rows c.push.new.self c.len-position.ensures (_, c.in_ok-push.ensures.ok))

pub returns-in-Err-clause-left : goal.returns-in-Err-clause-left
returns-in-Err-clause-left g c = λ records keeps count. c.in-Err.ensures.err records keeps (c.len-position.ensures ∙ count)
