use Rattle.std.proofs.Common.{◌∙◌, refl, sym}
use Rattle.warc_quick.proofs.TypedLemmas.{date_found, reads_all}
use Rattle.warc_quick.proofs.head.QuickHead.typed.Goals as goal

pub unreachable-requires-in_default-read_date : goal.unreachable-requires-in_default-read_date
unreachable-requires-in_default-read_date c =
    c.in_default-read_date.not-Some _ (c.read_date.ensures ∙ date_found _ _ c.requires.says.1)

pub returns : goal.returns
returns c = λ fields says. reads_all fields c.args.self.now says _ c.named.ensures refl refl refl
    (sym c.in-Some.is ∙ c.id_key.ensures) c.in-Some-read_date.ensures refl refl refl refl refl refl c.requires.alone
