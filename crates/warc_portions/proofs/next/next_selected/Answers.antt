use Rattle.warc_portions.proofs.OutputLemmas.{followed_by_position}
use Rattle.warc_portions.proofs.next.next_selected.Goals as goal

pub returns-clause-next : goal.returns-clause-next
returns-clause-next c = λ bytes positions rows position at here.
    followed_by_position rows positions bytes c.args.cursor _ c.args.row.now position at here c.after_record.ensures
