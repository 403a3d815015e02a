use Rattle.std.proofs.Common.{◌≡◌, [], ◌+◌, ◌++◌, length, refl, sym, ap, ◌∙◌, subst, arith, Ok}
use Rattle.std.proofs.lemmas.List.{nil_from_length}
use Rattle.warc_frame.specs.Reading.{any_fields, head_of}
use Rattle.warc_frame.specs.Decoding.{State, IsSound}
use Rattle.warc_frame.proofs.StreamSteps.{sound_between, gives_ok, extended}
use Rattle.warc_frame.proofs.stream.Decoder.close_head.Goals as goal
use Rattle.warc_frame.proofs.stream.Decoder.close_head.Goals.{then-is_empty, else-is_empty+else-is_err}

pub invariant_of-self-in-Ok : goal.invariant_of-self-in-Ok
invariant_of-self-in-Ok g c =
    let place : c.if-is_empty.self-inside.position ≡ c.self.inside.position = elim c.if-is_empty.branch [ then-is_empty w ↦ rw w.self-inside-is refl | else-is_empty+else-is_err w ↦ rw w.self-inside-is refl ] in
    let at : c.self.inside.position ≡ c.args.self.now.position = ap (λ (x : State). x.position) c.self.view_is in
    subst (λ x. IsSound (c.if-is_empty.self-inside.position + length c.args.end.now) x 0) (sym c.clear.ensures.items)
    (sound_between (c.if-is_empty.self-inside.position + length c.args.end.now) 0 (omega (arith, place, at, c.requires.room)) (omega arith) (omega arith))

pub invariant_of-self-in-Err : goal.invariant_of-self-in-Err
invariant_of-self-in-Err g c =
    let place : c.if-is_empty.self-inside.position ≡ c.self.inside.position = elim c.if-is_empty.branch [ then-is_empty w ↦ rw w.self-inside-is refl | else-is_empty+else-is_err w ↦ rw w.self-inside-is refl ] in
    let same : c.if-is_empty.self-inside.matched ≡ c.self.inside.matched = elim c.if-is_empty.branch [ then-is_empty w ↦ rw w.self-inside-is refl | else-is_empty+else-is_err w ↦ rw w.self-inside-is refl ] in
    subst (λ x. IsSound c.if-is_empty.self-inside.position x c.if-is_empty.self-inside.matched) (sym c.clear.ensures.items)
    (sound_between c.if-is_empty.self-inside.position c.if-is_empty.self-inside.matched (omega (arith, place, c.self.invariant.limit)) (omega (arith, same, c.self.invariant.fewer)) (omega (arith, place, same, c.self.invariant.following)))

pub returns-in-Ok-clause-closes : goal.returns-in-Ok-clause-closes
returns-in-Ok-clause-closes g c =
    let place : c.if-is_empty.self-inside.position ≡ c.self.inside.position = elim c.if-is_empty.branch [ then-is_empty w ↦ rw w.self-inside-is refl | else-is_empty+else-is_err w ↦ rw w.self-inside-is refl ] in
    let at : c.self.inside.position ≡ c.args.self.now.position = ap (λ (x : State). x.position) c.self.view_is in
    let kept : c.self.inside.head.items ≡ c.args.self.now.kept = ap (λ (x : State). x.kept) c.self.view_is in
    let read : head_of any_fields (c.args.self.now.kept ++ c.args.end.now) ≡ Ok (record { version = c.in-Ok.head.version; fields = c.in-Ok.head.fields; len = c.in-Ok.head.len; block_len = c.in-Ok.head.block_len }) = elim c.if-is_empty.branch [
      | then-is_empty w ↦ (
          let nil : c.self.inside.head.items ≡ [] = nil_from_length c.self.inside.head.items (grind (arith, c.self.inside.head.ok.0)) in
          ap (λ x. head_of any_fields (x ++ c.args.end.now)) (sym kept ∙ nil) ∙ gives_ok _ w.read_fields-read.result (head_of any_fields c.args.end.now) c.in-Ok.head (sym w.read-is ∙ c.in-Ok.is) w.read_fields-read.ensures.exact)
      | else-is_empty+else-is_err w ↦ (
          let more = extended w.extend_from_slice.result (c.self.inside.head.items ++ c.args.end.now) c.self.inside.head.items w.extend_from_slice.new.self.items (sym w.is_err.ensures.value ∙ w.if-is_err.false) w.extend_from_slice.ensures.items in
          ap (head_of any_fields) (ap (λ x. x ++ c.args.end.now) (sym kept) ∙ sym more ∙ sym w.deref.ensures.value) ∙ gives_ok _ w.read_fields-read-else-is_empty.result (head_of any_fields w.deref.result.now) c.in-Ok.head (sym w.read-is ∙ c.in-Ok.is) w.read_fields-read-else-is_empty.ensures.exact)
    ] in
    (refl, (c.in-Ok.head.len, refl, read), c.clear.ensures.items, ap (λ k. k + length c.args.end.now) (place ∙ at), refl, refl)
