use Rattle.std.proofs.Common.{ap, ◌∙◌, arith}
use Rattle.std.proofs.lemmas.Bool.{leb-true}
use Rattle.std.proofs.lemmas.List.{append-nil}
use Rattle.warc_frame.specs.Spelling.{canonical}
use Rattle.warc_write.specs.Rendering.{canonical_texts}
use Rattle.warc_rewrite.specs.Copied.{text_by}
use Rattle.warc_rewrite.proofs.SplitLemmas.{short_stays}
use Rattle.warc_rewrite.proofs.output.Replacement.keeps.Goals as goal

pub returns-in-Split : goal.returns-in-Split
returns-in-Split c = λ short r len.
    ap (λ m. text_by m r) c.in-Split.is
    ∙ ap canonical_texts (short_stays r c.in-Split.size (omega (arith, len, leb-true c.args.block_len c.in-Split.size short)))
    ∙ append-nil (canonical r)
