use Rattle.std.proofs.Common.{◌≡◌, ◌≤◌, ◌<◌, length, inl, inr, sym, subst, ◌∙◌, arith}
use Rattle.warc_frame.specs.declared.fault.Fault.{Fault}
use Rattle.warc_frame.specs.declared.fault.FaultKind.{FaultKind}
use Rattle.warc_pieces.specs.Ends.{ClosesBy}
use Rattle.warc_pieces.specs.Pieces.{near}
use Rattle.warc_pieces.proofs.RecordLemmas.{closing_before, closing_cut, closing_open, closing_whole, closing_wrong, none_left, some_left}
use Rattle.warc_pieces.proofs.record.check_end_beyond.Goals as goal

pub returns-in-Err-clause-closes : goal.returns-in-Err-clause-closes
returns-in-Err-clause-closes g c = λ bytes held low.
    let f = c.in-Err.fault in
    let unread = c.in-Err.ensures.unread in
    let P : FaultKind → Type 0 = λ kind. ClosesBy kind c.args.known c.args.end bytes f in
    subst P (sym unread.kind) (inr unread.from, closing_open f.offset c.args.end (near bytes) c.read_closing.new.buf unread.from unread.before c.in-Err.ensures.len (c.in-Err.ensures.unclosed bytes held))

pub returns-then-not-begins_as-clause-closes : goal.returns-then-not-begins_as-clause-closes
returns-then-not-begins_as-clause-closes g c = λ bytes held low.
    let P : Fault → Type 0 = λ f. ClosesBy f.kind c.args.known c.args.end bytes f in
    subst P (sym c.at.ensures) (closing_wrong c.args.end (near bytes) _ (c.in-Ok.ensures.bytes bytes held).same (sym c.begins_as.ensures ∙ c.if-not-begins_as.true))

pub returns-then-n-eq4-clause-closes : goal.returns-then-n-eq4-clause-closes
returns-then-n-eq4-clause-closes g c = λ bytes held low.
    let few : c.in-Ok.n ≤ length c.read_closing.new.buf = omega (arith, c.in-Ok.ensures.bound, c.in-Ok.ensures.len) in
    let good = sym c.begins_as.ensures ∙ c.if-not-begins_as.false in
    closing_whole c.args.end c.in-Ok.n (near bytes) c.read_closing.new.buf ((c.in-Ok.ensures.bytes bytes held).whole good) few good c.if-n-eq4.true

pub returns-then-n-gt0-clause-closes : goal.returns-then-n-gt0-clause-closes
returns-then-n-gt0-clause-closes g c = λ bytes held low.
    let few : c.in-Ok.n ≤ length c.read_closing.new.buf = omega (arith, c.in-Ok.ensures.bound, c.in-Ok.ensures.len) in
    let good = sym c.begins_as.ensures ∙ c.if-not-begins_as.false in
    let is = (c.in-Ok.ensures.bytes bytes held).whole good in
    let short : c.in-Ok.n < 4 = omega (arith, c.in-Ok.ensures.bound, c.if-n-eq4.false) in
    let P : Fault → Type 0 = λ f. ClosesBy f.kind c.args.known c.args.end bytes f in
    subst P (sym c.at-then-n-gt0.ensures) (closing_cut c.args.end c.in-Ok.n _ (near bytes) c.read_closing.new.buf is few good short (some_left c.args.end c.in-Ok.n (near bytes) c.read_closing.new.buf is few c.if-n-gt0.true short))

pub returns-in-Ok-find_end-clause-closes : goal.returns-in-Ok-find_end-clause-closes
returns-in-Ok-find_end-clause-closes g c = λ bytes held low.
    let few : c.in-Ok.n ≤ length c.read_closing.new.buf = omega (arith, c.in-Ok.ensures.bound, c.in-Ok.ensures.len) in
    let good = sym c.begins_as.ensures ∙ c.if-not-begins_as.false in
    let is = (c.in-Ok.ensures.bytes bytes held).whole good in
    let none : c.in-Ok.n ≡ 0 = omega (arith, c.if-n-gt0.false) in
    let short : c.in-Ok.n < 4 = omega (arith, none) in
    let over = none_left c.args.end c.in-Ok.n (near bytes) c.read_closing.new.buf is few none in
    let P : Fault → Type 0 = λ f. ClosesBy f.kind c.args.known c.args.end bytes f in
    subst P (sym c.at-in-Ok-find_end.ensures) (closing_cut c.args.end c.in-Ok.n _ (near bytes) c.read_closing.new.buf is few good short
    (c.in-Ok-find_end.ensures.end bytes (c.in-Ok.ensures.reads.kept ∙ held) low over))

pub returns-in-Err-find_end-clause-closes : goal.returns-in-Err-find_end-clause-closes
returns-in-Err-find_end-clause-closes g c = λ bytes held low.
    let f = c.in-Err-find_end.unread in
    let unread = c.in-Err-find_end.ensures.unread in
    let P : FaultKind → Type 0 = λ kind. ClosesBy kind c.args.known c.args.end bytes f in
    subst P (sym unread.kind) (inl unread.from, closing_before f.offset c.args.end (near bytes) (omega (arith, unread.from, unread.before)))
