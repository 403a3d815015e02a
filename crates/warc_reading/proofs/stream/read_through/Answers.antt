use Rattle.std.proofs.Common.{rules, Ok, Err, ℕ, ◌<◌, true, false, List, ◌++◌, [], length, take, refl, ◌∙◌, arith, length-append}
use Rattle.std.proofs.lemmas.Result.{err_from_is_err_and}
use Rattle.warc_frame.specs.Reported.{nothing}
use Rattle.warc_frame.specs.declared.source.ReadFault.{ReadFault}
use Rattle.warc_reading.proofs.GrowLemmas.{begun, extends_more, extends_none, follows_none, follows_on, given_none, given_on, grows_ended, grows_refused, grows_unread, on_err, part_grows, since_left, still_in_order, stops_ended, stops_refused, stops_unread}
use Rattle.warc_reading.proofs.OpeningLemmas.{fits_near, near, read_there}
use Rattle.warc_reading.proofs.SourceLemmas.{length_grows}
use Rattle.warc_reading.proofs.stream.read_through.Goals as goal

pub reading-init : goal.reading-init
reading-init g c = record {
  taken = [];
  reported = nothing;
  is_at = c.new-decoder.ensures;
  is_present = λ bytes is. begun g.L.Keep.keeps bytes _ c.args.reading.now is (c.requires.begin bytes is.listed) c.requires.current c.new-decoder.ensures;
  rows = extends_none c.args.reading.now.rows;
  given = given_none c.args.reading.now.begin _;
  follows = follows_none c.args.reading.now.begin (g.S.Source.seen c.args.source.now);
  room = refl;
}

pub returns-in-Err-clause-grows : goal.returns-in-Err-clause-grows
returns-in-Err-clause-grows g c =
    let i = c.reading.invariant in
    let (end, lies) = c.position-at.ensures.history c.args.reading.now.begin i.taken i.reported i.is_at in
    let grows = grows_unread c.args.reading.now.begin _ _ _ i.taken i.given true (near c.position-at.result (length c.reading.buf)) (read_there end c.in-Err.ensures.read) (omega (arith, end, c.position-at.ensures.limit)) (fits_near (length c.reading.buf) end c.position-at.ensures.limit)
    (still_in_order {E = ReadFault} c.args.reading.now.begin c.position-at.result (Err c.in-Err.field-0) (g.S.Source.seen c.args.source.now) (g.S.Source.seen c.reading.source) (g.S.Source.seen c.read_near.new.source) i.taken end i.follows c.in-Err.ensures.order)
    g.L.Keep.keeps (c.args.reading.now.rows, c.args.reading.now.beside) (λ bytes is. c.requires.begin bytes is.listed) c.reading.decoder c.reading.reading
    i.is_present (λ text reported is. (c.position-at.ensures.history 0 text reported is).1) refl in
    rw (c.at.ensures, end) grows

pub returns-in-Err-clause-rows : goal.returns-in-Err-clause-rows
returns-in-Err-clause-rows g c = c.reading.invariant.rows

pub returns-in-Err-clause-left : goal.returns-in-Err-clause-left
returns-in-Err-clause-left g c = λ bytes is.
    let s = c.reading.invariant.is_present bytes is in
    since_left g.L.Keep.keeps is.listed.are.records c.reading.reading.beside s.has.records s.has.beside

pub returns-in-Err-clause-stops : goal.returns-in-Err-clause-stops
returns-in-Err-clause-stops g c =
    let i = c.reading.invariant in
    let (end, lies) = c.position-at.ensures.history c.args.reading.now.begin i.taken i.reported i.is_at in
    let stops = stops_unread c.args.reading.now.begin _ _ i.taken i.given (omega (arith, end, c.position-at.ensures.limit)) g.L.Keep.keeps (c.args.reading.now.rows, c.args.reading.now.beside)
    (λ bytes is. c.requires.begin bytes is.listed) c.reading.decoder c.reading.reading i.is_present (λ text reported is. (c.position-at.ensures.history 0 text reported is).1) in
    rw (c.at.ensures, end) stops

pub returns-in_err-take_piece-clause-stops : goal.returns-in_err-take_piece-clause-stops
returns-in_err-take_piece-clause-stops g c =
    let p = err_from_is_err_and c.from_residual.result c.from_residual.ensures.1 in
    let i = c.reading.invariant in
    let start : ℕ = c.args.reading.now.begin in
    let (end, lies) = c.position-at.ensures.history start i.taken i.reported i.is_at in
    rw (p.1, p.2) (stops_refused start _ _ i.taken i.given (omega (arith, end, c.position-at.ensures.limit)) g.L.Keep.keeps (c.args.reading.now.rows, c.args.reading.now.beside)
    (λ bytes is. c.requires.begin bytes is.listed) c.reading.decoder c.reading.reading i.is_present (λ text reported is. (c.position-at.ensures.history 0 text reported is).1)
    c.read_near.new.buf c.in-Ok.n c.position-at.result c.take_piece.new.reading.rows c.in_err-take_piece.field-0.0 end
    (λ bytes held. c.in-Ok.ensures.bytes bytes (i.given.kept ∙ held))
    (λ bytes is. c.in_err-take_piece.ensures.stops is.listed.are.records (bytes ++ i.taken) (i.is_present bytes is)))

pub returns-clause-stops : goal.returns-clause-stops
returns-clause-stops g c =
    let i = c.reading.invariant in
    let start : ℕ = c.args.reading.now.begin in
    let (end, lies) = c.position-at.ensures.history start i.taken i.reported i.is_at in
    stops_ended start _ _ i.taken i.given (omega (arith, end, c.position-at.ensures.limit)) g.L.Keep.keeps (c.args.reading.now.rows, c.args.reading.now.beside)
    (λ bytes is. c.requires.begin bytes is.listed) c.reading.decoder c.reading.reading i.is_present (λ text reported is. (c.position-at.ensures.history 0 text reported is).1)
    c.read_near.new.buf c.in-Ok.n c.position-at.result c.finish.result end c.if-n-eq0.true
    (omega (arith, c.requires.room, i.room, c.read_near.auto.buf))
    (λ bytes held. c.in-Ok.ensures.bytes bytes (i.given.kept ∙ held))
    (λ at text reported is. c.finish.ensures.history at text reported is)

pub reading-smaller : goal.reading-smaller
reading-smaller g c =
    let i = c.reading.invariant in
    let (now, here) = c.in_ok-take_piece.ensures.taken c.args.reading.now.begin i.taken i.reported i.is_at in
    let size = length_grows i.taken c.read_near.new.buf c.in-Ok.n c.in-Ok.ensures.bound in
    omega (arith, i.is_at.position_is, here.position_is, size, c.if-n-eq0.false, c.position-at.ensures.value, c.position-at.ensures.limit)

pub reading-preserved : goal.reading-preserved
reading-preserved g c =
    let i = c.reading.invariant in
    let start : ℕ = c.args.reading.now.begin in
    let (end, lies) = c.position-at.ensures.history start i.taken i.reported i.is_at in
    let n : ℕ = c.in-Ok.n in
    let buf : List ℕ = c.read_near.new.buf in
    let size = length_grows i.taken buf n c.in-Ok.ensures.bound in
    let some : 0 < length (take n buf) = omega (arith, size, c.if-n-eq0.false, length-append i.taken (take n buf)) in
    let (now, here) = c.in_ok-take_piece.ensures.taken start i.taken i.reported i.is_at in
    record {
      taken = i.taken ++ take n buf;
      reported = now;
      is_at = here;
      is_present = λ bytes is. part_grows g.L.Keep.keeps is.listed.are.records bytes i.taken (take n buf) _ _ (c.in_ok-take_piece.ensures.history is.listed.are.records (bytes ++ i.taken) (i.is_present bytes is));
      rows = extends_more _ _ _ i.rows c.take_piece.ensures.rows;
      given = given_on start _ _ _ i.taken buf n c.position-at.result (near c.position-at.result (length c.reading.buf)) i.given (read_there end c.in-Ok.ensures.read) (fits_near (length c.reading.buf) end c.position-at.ensures.limit) some size end (λ bytes held. c.in-Ok.ensures.bytes bytes (i.given.kept ∙ held));
      follows = follows_on ReadFault start c.position-at.result n (g.S.Source.seen c.args.source.now) (g.S.Source.seen c.reading.source) (g.S.Source.seen c.read_near.new.source) i.taken buf end size c.in-Ok.ensures.near i.follows c.in-Ok.ensures.order;
      room = search rules;
    }

pub returns-in_err-take_piece-clause-grows : goal.returns-in_err-take_piece-clause-grows
returns-in_err-take_piece-clause-grows g c =
    let p = err_from_is_err_and c.from_residual.result c.from_residual.ensures.1 in
    let i = c.reading.invariant in
    let start : ℕ = c.args.reading.now.begin in
    let (end, lies) = c.position-at.ensures.history start i.taken i.reported i.is_at in
    rw (p.1, p.2) (grows_refused start _ _ _ i.taken i.given false (near c.position-at.result (length c.reading.buf)) (read_there end c.in-Ok.ensures.read) (omega (arith, end, c.position-at.ensures.limit)) (fits_near (length c.reading.buf) end c.position-at.ensures.limit)
    (still_in_order {E = ReadFault} c.args.reading.now.begin c.position-at.result (Ok c.in-Ok.n) (g.S.Source.seen c.args.source.now) (g.S.Source.seen c.reading.source) (g.S.Source.seen c.read_near.new.source) i.taken end i.follows c.in-Ok.ensures.order)
    g.L.Keep.keeps (c.args.reading.now.rows, c.args.reading.now.beside) (λ bytes is. c.requires.begin bytes is.listed) c.reading.decoder c.reading.reading
    i.is_present (λ text reported is. (c.position-at.ensures.history 0 text reported is).1) c.read_near.new.buf c.in-Ok.n c.position-at.result c.in_err-take_piece.field-0.0 refl end (omega (arith, c.if-n-eq0.false))
    (c.in_err-take_piece.ensures.taken start i.taken i.reported i.is_at)
    (λ bytes held. c.in-Ok.ensures.bytes bytes (i.given.kept ∙ held))
    (λ bytes is. c.in_err-take_piece.ensures.history is.listed.are.records (bytes ++ i.taken) (i.is_present bytes is))
    (λ bytes is. c.in_err-take_piece.ensures.memory is.listed.are.records (bytes ++ i.taken) (i.is_present bytes is)))

pub returns-in_err-take_piece-clause-rows : goal.returns-in_err-take_piece-clause-rows
returns-in_err-take_piece-clause-rows g c = extends_more _ _ _ c.reading.invariant.rows c.take_piece.ensures.rows

pub returns-in_err-take_piece-clause-left : goal.returns-in_err-take_piece-clause-left
returns-in_err-take_piece-clause-left g c =
    let i = c.reading.invariant in
    λ bytes is. on_err c.from_residual.result (c.in_err-take_piece.ensures.left is.listed.are.records (bytes ++ i.taken) (i.is_present bytes is))

pub returns-clause-grows : goal.returns-clause-grows
returns-clause-grows g c =
    let i = c.reading.invariant in
    let start : ℕ = c.args.reading.now.begin in
    let (end, lies) = c.position-at.ensures.history start i.taken i.reported i.is_at in
    grows_ended start _ _ _ i.taken i.given false (near c.position-at.result (length c.reading.buf)) (read_there end c.in-Ok.ensures.read) (omega (arith, end, c.position-at.ensures.limit)) (fits_near (length c.reading.buf) end c.position-at.ensures.limit)
    (still_in_order {E = ReadFault} c.args.reading.now.begin c.position-at.result (Ok c.in-Ok.n) (g.S.Source.seen c.args.source.now) (g.S.Source.seen c.reading.source) (g.S.Source.seen c.read_near.new.source) i.taken end i.follows c.in-Ok.ensures.order)
    g.L.Keep.keeps (c.args.reading.now.rows, c.args.reading.now.beside) (λ bytes is. c.requires.begin bytes is.listed) c.reading.decoder c.reading.reading
    i.is_present (λ text reported is. (c.position-at.ensures.history 0 text reported is).1) i.reported c.read_near.new.buf c.in-Ok.n c.position-at.result c.finish.result i.is_at refl end c.if-n-eq0.true
    (omega (arith, c.requires.room, i.room, c.read_near.auto.buf))
    (λ bytes held. c.in-Ok.ensures.bytes bytes (i.given.kept ∙ held))
    (λ at text reported is. c.finish.ensures.history at text reported is)

pub returns-clause-rows : goal.returns-clause-rows
returns-clause-rows g c = c.reading.invariant.rows

pub returns-clause-left : goal.returns-clause-left
returns-clause-left g c = λ bytes is.
    let s = c.reading.invariant.is_present bytes is in
    on_err c.finish.result (since_left g.L.Keep.keeps is.listed.are.records c.reading.reading.beside s.has.records s.has.beside)

pub returns-in-Err-clause-order : goal.returns-in-Err-clause-order
returns-in-Err-clause-order g c =
    let i = c.reading.invariant in
    let (end, lies) = c.position-at.ensures.history c.args.reading.now.begin i.taken i.reported i.is_at in
    still_in_order {E = ReadFault} c.args.reading.now.begin c.position-at.result (Err c.in-Err.field-0) (g.S.Source.seen c.args.source.now) (g.S.Source.seen c.reading.source) (g.S.Source.seen c.read_near.new.source) i.taken end i.follows c.in-Err.ensures.order

pub returns-in_err-take_piece-clause-order : goal.returns-in_err-take_piece-clause-order
returns-in_err-take_piece-clause-order g c =
    let i = c.reading.invariant in
    let (end, lies) = c.position-at.ensures.history c.args.reading.now.begin i.taken i.reported i.is_at in
    still_in_order {E = ReadFault} c.args.reading.now.begin c.position-at.result (Ok c.in-Ok.n) (g.S.Source.seen c.args.source.now) (g.S.Source.seen c.reading.source) (g.S.Source.seen c.read_near.new.source) i.taken end i.follows c.in-Ok.ensures.order

pub returns-clause-order : goal.returns-clause-order
returns-clause-order g c =
    let i = c.reading.invariant in
    let (end, lies) = c.position-at.ensures.history c.args.reading.now.begin i.taken i.reported i.is_at in
    still_in_order {E = ReadFault} c.args.reading.now.begin c.position-at.result (Ok c.in-Ok.n) (g.S.Source.seen c.args.source.now) (g.S.Source.seen c.reading.source) (g.S.Source.seen c.read_near.new.source) i.taken end i.follows c.in-Ok.ensures.order
