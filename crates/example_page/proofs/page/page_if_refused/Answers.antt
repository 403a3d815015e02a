use Rattle.std.proofs.Common.{ℕ, List, IfOk, ap, subst, sym}
use Rattle.warc_frame.specs.Device.{Stored}
use Rattle.warc_reading.specs.Archive.{Contents}
use Rattle.warc_lookup.specs.Indexed.{IsIndexed}
use Rattle.example_page.specs.Page.{IsPageOf}
use Rattle.example_page.proofs.page.page_if_refused.Goals as goal

pub returns : goal.returns
returns c = λ is.
    let refused = c.if-has_grown.false in
    let new = c.has_grown.new.archive in
    let same = ap (λ (l : Contents Stored). l.source.bytes) (c.has_grown.ensures.listing refused) in
    let stays = c.has_grown.ensures.stays c.args.archive.now.listing.source.bytes is refused in
    let Stays : List ℕ → Type 0 = λ bytes. IsIndexed bytes new in
    let Gives : List ℕ → Type 0 =
    λ bytes. IfOk c.replayed.result (λ page. IsPageOf bytes c.args.uri.now c.args.moment.now page.items) in
    subst Gives same (c.replayed.ensures (subst Stays (sym same) stays))
