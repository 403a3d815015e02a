use Rattle.std.proofs.Common.{refl, ◌∙◌}
use Rattle.example_page.proofs.PageLemmas.{page_of}
use Rattle.example_page.proofs.page.replayed.Goals as goal

pub returns : goal.returns
returns c = λ is.
    let archive = c.args.archive.now in
    let bytes = archive.listing.source.bytes in
    let empty = c.new-out.ensures.bytes ∙ c.new.ensures.items in
    let reported = c.in_ok-replay.ensures.replays.reported bytes refl is.listed is.kept in
    rw c.into_inner.ensures
    (page_of bytes c.args.uri.now c.args.moment.now archive is c.in_ok-replay.field-0 c.new-out.result.bytes
    c.replay.new.out.bytes empty reported)
