use Rattle.std.proofs.Common.{List, [], refl, subst, sym, ◌∙◌}
use Rattle.warc_reading.specs.Archive.{IsArchiveOf}
use Rattle.warc_reading.specs.Row.{Row}
use Rattle.warc_reading.proofs.GrowLemmas.{front_rows, none_listed, opens_made, order_from}
use Rattle.warc_reading.proofs.stream.read_front.Goals as goal

pub read_through-answer-requires-clause-begin : goal.read_through-answer-requires-clause-begin
read_through-answer-requires-clause-begin g c = λ bytes is.
    let P : List Row → Type 0 = λ rows. IsArchiveOf bytes rows in
    c.following-reading.ensures.begin bytes (subst P c.following-reading.ensures.rows is)

pub returns-clause-opens : goal.returns-clause-opens
returns-clause-opens g c =
    opens_made _ _ _ _ _ _ _ refl (c.following-reading.ensures.rows ∙ c.new-2.ensures) tt (λ bytes kept. kept.listed) c.read_through-answer.ensures.grows

pub returns-clause-front : goal.returns-clause-front
returns-clause-front g c = λ bytes held.
    front_rows _ _ _ c.following-reading.result.rows c.read_through-answer.new.reading.rows c.read_through-answer.result (c.following-reading.ensures.rows ∙ c.new-2.ensures) tt
    (opens_made _ _ _ _ _ _ _ refl (c.following-reading.ensures.rows ∙ c.new-2.ensures) tt (λ bytes kept. kept.listed) c.read_through-answer.ensures.grows)
    c.read_through-answer.ensures.stops bytes held

pub returns-clause-order : goal.returns-clause-order
returns-clause-order g c =
    let P : List Row → Type 0 = λ rows. IsArchiveOf [] rows in
    order_from _ _ (g.S.Source.seen c.args.source.now) (g.S.Source.seen c.read_through-answer.new.source) (c.following-reading.ensures.begin [] (subst P (sym c.new-2.ensures) none_listed)) c.read_through-answer.ensures.order
