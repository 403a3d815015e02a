use Rattle.std.proofs.Common.{[], ℕ, List, length, subst, sym, ◌∙◌, ap, take}
use Rattle.std.proofs.Math.Seq.{take-length}
use Rattle.std.proofs.lemmas.List.{append-nil}
use Rattle.warc_frame.specs.Spelling.{Spells}
use Rattle.warc_replay.proofs.TakeLemmas.{memory_reported, same_found}
use Rattle.warc_replay.proofs.record.whole.whole_record.Goals as goal

pub returns-in-Err-clause-only : goal.returns-in-Err-clause-only
returns-in-Err-clause-only g c = λ r s.
    c.fault_of.ensures.memory (memory_reported c.in-Err.fault.kind c.in-Err.fault.offset _ (λ e. cc e) (c.in-Err.ensures.only r c.args.text.now [] s (sym (append-nil c.args.text.now))))

pub returns-then-len-text-clause-only : goal.returns-then-len-text-clause-only
returns-then-len-text-clause-only g c = λ r s.
    let same = same_found r (length c.args.text.now) c.in-Ok.found (c.in-Ok.ensures.only r c.args.text.now [] s (sym (append-nil c.args.text.now))) in
    absurd (c.if-len-text.true same.1)

pub returns-clause-only : goal.returns-clause-only
returns-clause-only g c = λ r s.
    (same_found r (length c.args.text.now) c.in-Ok.found (c.in-Ok.ensures.only r c.args.text.now [] s (sym (append-nil c.args.text.now)))).0

pub returns-clause-whole : goal.returns-clause-whole
returns-clause-whole g c =
    let text = c.args.text.now in
    let P : List ℕ → Type 0 = λ t. Spells c.in-Ok.found.0 t in
    subst P (ap (λ n. take n text) c.if-len-text.false ∙ take-length text) c.in-Ok.ensures.found.1
