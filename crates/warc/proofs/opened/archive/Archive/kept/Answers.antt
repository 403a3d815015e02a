use Rattle.std.proofs.Common.{rules, ◌≡◌, min}
use Rattle.warc.specs.Keeping.{kept_bytes}
use Rattle.warc.proofs.KeptLemmas.{kept_is_bounded}
use Rattle.warc.proofs.opened.archive.Archive.kept.Goals as goal

pub returns-clause-bounds : goal.returns-clause-bounds
returns-clause-bounds g c bytes is =
    let counted : c.saturating_add.result ≡ min (kept_bytes c.args.self.now) 18446744073709551615 = search rules in
    kept_is_bounded c.saturating_add.result bytes c.args.self.now counted is
