use Rattle.std.proofs.Common.{◌∙◌, sym}
use Rattle.warc_lanes.specs.Lanes.{lane_of}
use Rattle.warc_lanes.proofs.LaneLemmas.{word_of_lane}
use Rattle.warc_lanes.proofs.RoundLemmas.{own_word, words_stay, next_word_is, words_move}
use Rattle.warc_lanes.proofs.kernel.word.Goals as goal
use Rattle.warc_lanes.proofs.kernel.word.Goals.{then-t-lt-WINDOW_LEN, else-t-lt-WINDOW_LEN}

pub returns-clause-value : goal.returns-clause-value
returns-clause-value c j h block held =
    let window = c.args.window.now in
    elim c.if-t-lt-WINDOW_LEN.branch [
      | then-t-lt-WINDOW_LEN w ↦
          rw w.result-is
          (sym (word_of_lane j window c.args.t) ∙ own_word block (lane_of j window) c.args.t w.if-t-lt-WINDOW_LEN.true held)
      | else-t-lt-WINDOW_LEN w ↦
          rw w.result-is
          (next_word_is block (lane_of j window) c.args.t _ w.if-t-lt-WINDOW_LEN.false c.requires held (w.next_word.ensures.value j h))
    ]

pub returns-clause-window : goal.returns-clause-window
returns-clause-window c j h block held =
    let window = c.args.window.now in
    elim c.if-t-lt-WINDOW_LEN.branch [
      | then-t-lt-WINDOW_LEN w ↦
          rw w.window-is (words_stay block (lane_of j window) c.args.t w.if-t-lt-WINDOW_LEN.true held)
      | else-t-lt-WINDOW_LEN w ↦
          rw w.window-is
          (words_move block j c.args.t window _ _ w.if-t-lt-WINDOW_LEN.false c.requires held (w.next_word.ensures.value j h) w.next_word.ensures.window)
    ]
