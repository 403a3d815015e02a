use Rattle.std.proofs.Common.{◌≡◌, ◌<◌, ◌≤◌, length, take, drop, ap, ◌∙◌, arith, length-append, length-take}
use Rattle.warc_commands.proofs.MakingLemmas.{ended, read_all, read_more, read_most}
use Rattle.warc_commands.proofs.ReadLemmas.{front_done, front_last, front_more, front_within}
use Rattle.warc_commands.proofs.write.read_through.Goals as goal
use Rattle.warc_commands.proofs.write.read_through.Goals.{else-reading-test, then-reading-test+in-Ok+then-n-eq0}

pub reading-preserved : goal.reading-preserved
reading-preserved g c =
    let items = c.reading.read.items in
    let more = c.in-Ok-extend_from_slice.ensures.items in
    let at : c.len-in-reading-2.result ≡ length items = omega (arith, c.len-in-reading-2.ensures) in
    record {
      within = omega (
        arith,
        ap (λ l. length l) more,
        length-append items (take c.in-Ok.n c.read_at.new.buf),
        length-take c.in-Ok.n c.read_at.new.buf,
        c.in-Ok.ensures.bound,
        c.read_at.auto.buf,
        length-take c.min-want.result c.reading.buf,
        c.min-want.ensures,
        c.len-in-reading.ensures,
        c.reading-test.true,
        c.len.ensures,
      );
      bytes = λ bytes held.
          let gives = c.in-Ok.ensures.bytes bytes (c.reading.invariant.kept ∙ held) in
          read_more bytes items _ c.read_at.new.buf c.in-Ok.n (c.reading.invariant.bytes bytes held) c.in-Ok.ensures.bound more
          (gives.same ∙ ap (λ k. take c.in-Ok.n (drop k bytes)) at);
      kept = c.in-Ok.ensures.read.kept ∙ c.reading.invariant.kept;
      sound = c.in-Ok.ensures.read.cause ∙ c.reading.invariant.sound;
      asked = front_more c.args.most (length c.args.buf.now) items _ _ (g.S.Source.seen c.read_at.new.self) c.len-in-reading-2.result (length (take c.min-want.result c.reading.buf)) c.reading.invariant.asked
          c.in-Ok.ensures.read.watched c.in-Ok.ensures.read.counted c.in-Ok.ensures.read.asks at
          (omega (arith, at, length-take c.min-want.result c.reading.buf, c.min-want.ensures, c.len-in-reading.ensures, c.reading-test.true, c.len.ensures))
          (omega (arith, length-take c.min-want.result c.reading.buf, c.reading.auto.buf)) (λ bytes held. front_within bytes items (c.reading.invariant.bytes bytes held)) _
          (omega (arith, ap (λ l. length l) more, length-append items (take c.in-Ok.n c.read_at.new.buf), length-take c.in-Ok.n c.read_at.new.buf, c.in-Ok.ensures.bound, c.if-n-eq0.false));
    }

pub returns-clause-bytes : goal.returns-clause-bytes
returns-clause-bytes g c = λ bytes held. elim c.reading-test.branch [
  | else-reading-test w ↦
      read_most bytes c.reading.read.items c.args.most (c.reading.invariant.bytes bytes held) (omega (arith, w.reading-test.false, c.reading.invariant.within, c.len.ensures))
  | then-reading-test+in-Ok+then-n-eq0 w ↦
      let gives = w.in-Ok.ensures.bytes bytes (c.reading.invariant.kept ∙ held) in
      let room : 0 < length w.read_at.new.buf =
      omega (arith, w.read_at.auto.buf, length-take w.min-want.result c.reading.buf, w.min-want.ensures, w.len-in-reading.ensures, w.reading-test.true, c.len.ensures, c.reading.auto.buf, c.requires) in
      let end : length bytes ≤ w.len-in-reading-2.result = ended w.in-Ok.n _ (length bytes) _ gives.some w.if-n-eq0.true room in
      read_all bytes c.reading.read.items c.args.most (c.reading.invariant.bytes bytes held) c.reading.invariant.within (omega (arith, end, w.len-in-reading-2.ensures))
]

pub returns-clause-kept : goal.returns-clause-kept
returns-clause-kept g c = elim c.reading-test.branch [
  | else-reading-test w ↦ ap (λ s. (g.S.Source.seen s).holds) w.source-is ∙ c.reading.invariant.kept
  | then-reading-test+in-Ok+then-n-eq0 w ↦ ap (λ s. (g.S.Source.seen s).holds) w.source-is ∙ (w.in-Ok.ensures.read.kept ∙ c.reading.invariant.kept)
]

pub returns-clause-failed : goal.returns-clause-failed
returns-clause-failed g c = elim c.reading-test.branch [
  | else-reading-test w ↦ ap (λ s. (g.S.Source.seen s).faults) w.source-is ∙ c.reading.invariant.sound
  | then-reading-test+in-Ok+then-n-eq0 w ↦ ap (λ s. (g.S.Source.seen s).faults) w.source-is ∙ (w.in-Ok.ensures.read.cause ∙ c.reading.invariant.sound)
]

pub returns-in-Err-clause-reads : goal.returns-in-Err-clause-reads
returns-in-Err-clause-reads g c =
    let items = c.reading.read.items in
    let at : c.len-in-reading-2.result ≡ length items = omega (arith, c.len-in-reading-2.ensures) in
    front_last c.args.most (length c.args.buf.now) items _ _ (g.S.Source.seen c.read_at.new.self) c.len-in-reading-2.result (length (take c.min-want.result c.reading.buf)) c.reading.invariant.asked
    c.in-Err.ensures.read.watched c.in-Err.ensures.read.counted c.in-Err.ensures.read.asks at
    (omega (arith, at, length-take c.min-want.result c.reading.buf, c.min-want.ensures, c.len-in-reading.ensures, c.reading-test.true, c.len.ensures))
    (omega (arith, length-take c.min-want.result c.reading.buf, c.reading.auto.buf)) (λ bytes held. front_within bytes items (c.reading.invariant.bytes bytes held))

pub returns-in-Err-extend_from_slice-clause-reads : goal.returns-in-Err-extend_from_slice-clause-reads
returns-in-Err-extend_from_slice-clause-reads g c =
    let items = c.reading.read.items in
    let at : c.len-in-reading-2.result ≡ length items = omega (arith, c.len-in-reading-2.ensures) in
    front_last c.args.most (length c.args.buf.now) items _ _ (g.S.Source.seen c.read_at.new.self) c.len-in-reading-2.result (length (take c.min-want.result c.reading.buf)) c.reading.invariant.asked
    c.in-Ok.ensures.read.watched c.in-Ok.ensures.read.counted c.in-Ok.ensures.read.asks at
    (omega (arith, at, length-take c.min-want.result c.reading.buf, c.min-want.ensures, c.len-in-reading.ensures, c.reading-test.true, c.len.ensures))
    (omega (arith, length-take c.min-want.result c.reading.buf, c.reading.auto.buf)) (λ bytes held. front_within bytes items (c.reading.invariant.bytes bytes held))

pub returns-clause-reads : goal.returns-clause-reads
returns-clause-reads g c =
    let items = c.reading.read.items in
    elim c.reading-test.branch [
      | else-reading-test w ↦ rw w.source-is (front_done c.args.most (length c.args.buf.now) items _ _ c.reading.invariant.asked (λ bytes held. front_within bytes items (c.reading.invariant.bytes bytes held)))
      | then-reading-test+in-Ok+then-n-eq0 w ↦
          let at : w.len-in-reading-2.result ≡ length items = omega (arith, w.len-in-reading-2.ensures) in
          rw w.source-is (front_last c.args.most (length c.args.buf.now) items _ _ (g.S.Source.seen w.read_at.new.self) w.len-in-reading-2.result (length (take w.min-want.result c.reading.buf)) c.reading.invariant.asked
          w.in-Ok.ensures.read.watched w.in-Ok.ensures.read.counted w.in-Ok.ensures.read.asks at
          (omega (arith, at, length-take w.min-want.result c.reading.buf, w.min-want.ensures, w.len-in-reading.ensures, w.reading-test.true, c.len.ensures))
          (omega (arith, length-take w.min-want.result c.reading.buf, c.reading.auto.buf)) (λ bytes held. front_within bytes items (c.reading.invariant.bytes bytes held)))
    ]
