use Rattle.warc_rewrite.proofs.SelectionLaws.{all_give_the_archive}
use Rattle.warc.proofs.laws.all_give_the_archive.Goals as goal

pub returns : goal.returns
returns c = all_give_the_archive
