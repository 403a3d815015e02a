use Rattle.std.proofs.Common.{sym, subst}
use Rattle.warc_pieces.specs.Window.{Shows}
use Rattle.warc_pieces.proofs.WindowLemmas.{from_shows}
use Rattle.warc_pieces.proofs.window.Window.more.Goals as goal

pub returns-clause-shows : goal.returns-clause-shows
returns-clause-shows g c = λ bytes held shows there.
    c.go_on.ensures.shows bytes held (subst (Shows bytes) (sym c.go_to.ensures) (from_shows bytes c.args.at c.args.self.now c.requires.begin there shows))
