use Rattle.std.proofs.Common.{List, length, refl, subst, ◌∙◌}
use Rattle.warc_reading.specs.Archive.{IsArchiveOf}
use Rattle.warc_reading.specs.Row.{Row}
use Rattle.warc_reading.specs.Stream.{Extends, IsKeptOf}
use Rattle.warc_reading.proofs.GrowLemmas.{extends_front, grows_from, grows_untried, kept_again, order_from, unread_in_order}
use Rattle.warc_reading.proofs.stream.read_on.Goals as goal

pub read_through-requires-clause-begin : goal.read_through-requires-clause-begin
read_through-requires-clause-begin g c = λ bytes is.
    let P : List Row → Type 0 = λ rows. IsArchiveOf bytes rows in
    c.following-reading.ensures.begin bytes (subst P c.following-reading.ensures.rows is)

pub returns-in_default-clause-grows : goal.returns-in_default-clause-grows
returns-in_default-clause-grows g c = rw c.at.ensures (grows_untried c.end-begin.result (c.args.rows, c.args.beside) _ (λ bytes is. c.end-begin.ensures.end bytes is.listed))

pub returns-in_default-clause-beside : goal.returns-in_default-clause-beside
returns-in_default-clause-beside g c = λ bytes is. is

pub returns-in-Ok-read_through-clause-grows : goal.returns-in-Ok-read_through-clause-grows
returns-in-Ok-read_through-clause-grows g c = grows_from _ _ _ _ _ c.following-reading.ensures.rows c.following-reading.ensures.beside c.in-Ok-read_through.ensures.grows

pub returns-in-Ok-read_through-clause-beside : goal.returns-in-Ok-read_through-clause-beside
returns-in-Ok-read_through-clause-beside g c = λ bytes is. tt

pub returns-clause-grows : goal.returns-clause-grows
returns-clause-grows g c = grows_from _ _ _ _ _ c.following-reading.ensures.rows c.following-reading.ensures.beside c.in-Err.ensures.grows

pub returns-clause-rows : goal.returns-clause-rows
returns-clause-rows g c =
    let P : List Row → Type 0 = λ rows. Extends rows c.read_through.new.reading.rows in
    c.truncate.ensures.rows ∙ extends_front c.len-count.result c.args.rows c.read_through.new.reading.rows c.len-count.ensures (subst P c.following-reading.ensures.rows c.read_through.ensures.rows)

pub returns-clause-beside : goal.returns-clause-beside
returns-clause-beside g c = λ bytes is.
    let P : List Row → Type 0 = λ rows. Extends rows c.read_through.new.reading.rows in
    let same = c.truncate.ensures.rows ∙ extends_front c.len-count.result c.args.rows c.read_through.new.reading.rows c.len-count.ensures (subst P c.following-reading.ensures.rows c.read_through.ensures.rows) in
    let was = is.listed.are.records in
    let begun : IsKeptOf g.L.Keep.keeps bytes (c.following-reading.result.rows, c.following-reading.result.beside) = record {
      listed = record {
        short = is.listed.short;
        are = record { records = was; spelled = is.listed.are.spelled; good = is.listed.are.good; rows_are = c.following-reading.ensures.rows ∙ is.listed.are.rows_are };
      };
      beside = rw c.following-reading.ensures.beside is.beside;
    } in
    kept_again g.L.Keep.keeps bytes c.args.rows _ c.args.beside c.read_through.new.reading.beside _ c.len-count.result is same c.len-count.ensures (c.in-Err.ensures.left bytes begun) c.truncate.ensures.beside

pub returns-in_default-clause-order : goal.returns-in_default-clause-order
returns-in_default-clause-order g c = λ bytes is. unread_in_order (length bytes) (g.S.Source.seen c.args.source.now)

pub returns-in-Ok-read_through-clause-order : goal.returns-in-Ok-read_through-clause-order
returns-in-Ok-read_through-clause-order g c = λ bytes is. order_from _ _ (g.S.Source.seen c.args.source.now) (g.S.Source.seen c.read_through.new.source) (c.following-reading.ensures.begin bytes is) c.in-Ok-read_through.ensures.order

pub returns-clause-order : goal.returns-clause-order
returns-clause-order g c = λ bytes is. order_from _ _ (g.S.Source.seen c.args.source.now) (g.S.Source.seen c.read_through.new.source) (c.following-reading.ensures.begin bytes is) c.in-Err.ensures.order
