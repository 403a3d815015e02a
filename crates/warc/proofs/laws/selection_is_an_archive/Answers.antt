use Rattle.warc_rewrite.proofs.SelectionLaws.{selection_is_an_archive, selection_is_of_the_selected}
use Rattle.warc.proofs.laws.selection_is_an_archive.Goals as goal

pub returns-clause-archive : goal.returns-clause-archive
returns-clause-archive c = selection_is_an_archive

pub returns-clause-records : goal.returns-clause-records
returns-clause-records c = selection_is_of_the_selected c.spelling_is_unambiguous.ensures.list
