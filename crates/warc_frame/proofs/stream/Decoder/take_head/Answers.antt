use Rattle.std.proofs.Common.{◌≡◌, ℕ, min, List, ◌+◌, ◌-◌, ◌<◌, ◌≤◌, ◌++◌, length, length-append, length-take, take, drop, sym, ap, ◌∙◌, subst, arith, Some, None}
use Rattle.std.proofs.lemmas.List.{take_all, take-take, take-append-drop}
use Rattle.warc_frame.specs.declared.stream.Phase.TheVariants as phases
use Rattle.warc_frame.specs.declared.fault.FaultKind.TheVariants as kinds
use Rattle.warc_frame.specs.Reading.{fault, any_fields, version_of, empty_line, head_len}
use Rattle.warc_frame.specs.Decoding.{State, IsAt}
use Rattle.warc_frame.specs.Steps.{ClosesHead}
use Rattle.warc_frame.specs.Reported.{Refuses}
use Rattle.warc_frame.proofs.StreamHeads.{no_version, long_head}
use Rattle.warc_frame.proofs.StreamFaults.{too_long}
use Rattle.warc_frame.proofs.StreamSteps.{head_refused, head_none, head_outcome, whole_head, lies_in_head, no_memory, head_more_at, extended}
use Rattle.warc_frame.proofs.stream.Decoder.take_head.Goals as goal

pub returns-in_default-clause-history : goal.returns-in_default-clause-history
returns-in_default-clause-history g c = λ at taken text reported ph s front.
    let d : State = record { phase = c.self.inside.phase; position = c.self.inside.position; kept = c.self.inside.head.items; left = c.self.inside.left; matched = c.self.inside.matched } in
    let is : d ≡ c.args.self.now = c.self.view_is in
    let now : IsAt at taken reported d = subst (λ x. IsAt at taken reported x) (sym is) s in
    let head : d.phase ≡ phases.Head = ap (λ (x : State). x.phase) is ∙ ph in
    let near : List ℕ = c.args.near.now in
    let size : c.len.result ≡ length d.kept = c.len.ensures ∙ sym c.deref.ensures.len ∙ ap length c.deref.ensures.value in
    let none : version_of (d.kept ++ near) ≡ None = ap (λ x. version_of (x ++ near)) (sym c.deref.ensures.value) ∙ sym c.version_across.ensures ∙ c.in_default.is in
    subst (Refuses at text reported) (sym c.at.ensures) (head_refused at taken reported d text near (fault kinds.Version 0) (fault kinds.Version (d.position - c.len.result)) now head front.front (no_version any_fields (d.kept ++ near) none) (λ e. cc) (ap (fault kinds.Version) (omega (arith, size))))

pub close_head-requires-clause-version : goal.close_head-requires-clause-version
close_head-requires-clause-version g c =
    let d : State = record { phase = c.self.inside.phase; position = c.self.inside.position; kept = c.self.inside.head.items; left = c.self.inside.left; matched = c.self.inside.matched } in
    let is : d ≡ c.args.self.now = c.self.view_is in
    let near : List ℕ = c.args.near.now in
    let size : c.len.result ≡ length d.kept = c.len.ensures ∙ sym c.deref.ensures.len ∙ ap length c.deref.ensures.value in
    let version : version_of (d.kept ++ near) ≡ Some c.in-Some.version = ap (λ x. version_of (x ++ near)) (sym c.deref.ensures.value) ∙ sym c.version_across.ensures ∙ c.in-Some.is in
    let m : ℕ = c.min.result in
    let room : 65536 - c.len-room.result ≡ 65536 - length d.kept = ap (λ k. 65536 - k) (c.len-room.ensures ∙ sym c.len.ensures ∙ size) in
    let n : ℕ = c.in-Some-find_end.n in
    let P : List ℕ → Type 0 = λ x. (empty_line (x ++ take m near) ≡ Some (length x + n - 4)) × (4 ≤ length x + n) in
    let found = subst P c.deref-2.ensures.value (c.in-Some-find_end.ensures.end, c.in-Some-find_end.ensures.within.2) in
    let whole = whole_head d.kept near c.in-Some.version m n c.self.invariant.room (c.min.ensures ∙ ap (λ k. min k (length near)) room) version found.0 c.in-Some-find_end.ensures.within.1 found.1 in
    let R : State → Type 0 = λ x. version_of (x.kept ++ take n (take m near)) ≡ Some c.in-Some.version in
    subst R is whole.0

pub close_head-requires-clause-len : goal.close_head-requires-clause-len
close_head-requires-clause-len g c =
    let d : State = record { phase = c.self.inside.phase; position = c.self.inside.position; kept = c.self.inside.head.items; left = c.self.inside.left; matched = c.self.inside.matched } in
    let is : d ≡ c.args.self.now = c.self.view_is in
    let near : List ℕ = c.args.near.now in
    let size : c.len.result ≡ length d.kept = c.len.ensures ∙ sym c.deref.ensures.len ∙ ap length c.deref.ensures.value in
    let version : version_of (d.kept ++ near) ≡ Some c.in-Some.version = ap (λ x. version_of (x ++ near)) (sym c.deref.ensures.value) ∙ sym c.version_across.ensures ∙ c.in-Some.is in
    let m : ℕ = c.min.result in
    let room : 65536 - c.len-room.result ≡ 65536 - length d.kept = ap (λ k. 65536 - k) (c.len-room.ensures ∙ sym c.len.ensures ∙ size) in
    let n : ℕ = c.in-Some-find_end.n in
    let P : List ℕ → Type 0 = λ x. (empty_line (x ++ take m near) ≡ Some (length x + n - 4)) × (4 ≤ length x + n) in
    let found = subst P c.deref-2.ensures.value (c.in-Some-find_end.ensures.end, c.in-Some-find_end.ensures.within.2) in
    let whole = whole_head d.kept near c.in-Some.version m n c.self.invariant.room (c.min.ensures ∙ ap (λ k. min k (length near)) room) version found.0 c.in-Some-find_end.ensures.within.1 found.1 in
    let R : State → Type 0 = λ x. head_len (x.kept ++ take n (take m near)) ≡ Some (length (x.kept ++ take n (take m near))) in
    subst R is whole.1

pub returns-in-Some-find_end-clause-history : goal.returns-in-Some-find_end-clause-history
returns-in-Some-find_end-clause-history g c = λ at taken text reported ph s front.
    let d : State = record { phase = c.self.inside.phase; position = c.self.inside.position; kept = c.self.inside.head.items; left = c.self.inside.left; matched = c.self.inside.matched } in
    let is : d ≡ c.args.self.now = c.self.view_is in
    let near : List ℕ = c.args.near.now in
    let size : c.len.result ≡ length d.kept = c.len.ensures ∙ sym c.deref.ensures.len ∙ ap length c.deref.ensures.value in
    let version : version_of (d.kept ++ near) ≡ Some c.in-Some.version = ap (λ x. version_of (x ++ near)) (sym c.deref.ensures.value) ∙ sym c.version_across.ensures ∙ c.in-Some.is in
    let m : ℕ = c.min.result in
    let room : 65536 - c.len-room.result ≡ 65536 - length d.kept = ap (λ k. 65536 - k) (c.len-room.ensures ∙ sym c.len.ensures ∙ size) in
    let n : ℕ = c.in-Some-find_end.n in
    let P : List ℕ → Type 0 = λ x. (empty_line (x ++ take m near) ≡ Some (length x + n - 4)) × (4 ≤ length x + n) in
    let found = subst P c.deref-2.ensures.value (c.in-Some-find_end.ensures.end, c.in-Some-find_end.ensures.within.2) in
    let whole = whole_head d.kept near c.in-Some.version m n c.self.invariant.room (c.min.ensures ∙ ap (λ k. min k (length near)) room) version found.0 c.in-Some-find_end.ensures.within.1 found.1 in
    let now : IsAt at taken reported d = subst (λ x. IsAt at taken reported x) (sym is) s in
    let head : d.phase ≡ phases.Head = ap (λ (x : State). x.phase) is ∙ ph in
    let end : List ℕ = take n (take m near) in
    let cut : end ≡ take n near = take-take n m near (omega (arith, c.in-Some-find_end.ensures.within.1, length-take m near)) in
    let split : near ≡ end ++ drop n near = sym (ap (λ x. x ++ drop n near) cut ∙ take-append-drop n near) in
    head_outcome at taken text near end (drop n near) reported d c.close_head.new.self c.in-Some.version c.close_head.result now head front.front split whole.0 whole.1 (subst (λ x. ClosesHead x c.close_head.new.self end c.close_head.result) (sym is) c.close_head.ensures.closes)

pub returns-then-front-room-clause-history : goal.returns-then-front-room-clause-history
returns-then-front-room-clause-history g c = λ at taken text reported ph s front.
    let d : State = record { phase = c.self.inside.phase; position = c.self.inside.position; kept = c.self.inside.head.items; left = c.self.inside.left; matched = c.self.inside.matched } in
    let is : d ≡ c.args.self.now = c.self.view_is in
    let now : IsAt at taken reported d = subst (λ x. IsAt at taken reported x) (sym is) s in
    let head : d.phase ≡ phases.Head = ap (λ (x : State). x.phase) is ∙ ph in
    let near : List ℕ = c.args.near.now in
    let size : c.len.result ≡ length d.kept = c.len.ensures ∙ sym c.deref.ensures.len ∙ ap length c.deref.ensures.value in
    let version : version_of (d.kept ++ near) ≡ Some c.in-Some.version = ap (λ x. version_of (x ++ near)) (sym c.deref.ensures.value) ∙ sym c.version_across.ensures ∙ c.in-Some.is in
    let m : ℕ = c.min.result in
    let room : 65536 - c.len-room.result ≡ 65536 - length d.kept = ap (λ k. 65536 - k) (c.len-room.ensures ∙ sym c.len.ensures ∙ size) in
    let none : head_len (d.kept ++ near) ≡ None = head_none d.kept near (65536 - c.len-room.result) m c.self.invariant.room room c.min.ensures (ap (λ x. empty_line (x ++ take m near)) (sym c.deref-2.ensures.value) ∙ c.in_default-find_end.ensures.end) in
    let long : 65536 ≤ length (d.kept ++ near) = omega (arith, length-append d.kept near, length-take m near, c.if-front-room.true, room, c.self.invariant.room) in
    subst (Refuses at text reported) (sym c.at-then-front-room.ensures) (head_refused at taken reported d text near (fault kinds.HeadTooLong 0) (fault kinds.HeadTooLong (d.position - c.len.result)) now head front.front (long_head any_fields (d.kept ++ near) c.in-Some.version version none long) (λ e. cc) (ap (fault kinds.HeadTooLong) (omega (arith, size))))

pub returns-then-crosses-clause-history : goal.returns-then-crosses-clause-history
returns-then-crosses-clause-history g c = λ at taken text reported ph s front.
    let d : State = record { phase = c.self.inside.phase; position = c.self.inside.position; kept = c.self.inside.head.items; left = c.self.inside.left; matched = c.self.inside.matched } in
    let is : d ≡ c.args.self.now = c.self.view_is in
    let now : IsAt at taken reported d = subst (λ x. IsAt at taken reported x) (sym is) s in
    let head : d.phase ≡ phases.Head = ap (λ (x : State). x.phase) is ∙ ph in
    let near : List ℕ = c.args.near.now in
    let size : c.len.result ≡ length d.kept = c.len.ensures ∙ sym c.deref.ensures.len ∙ ap length c.deref.ensures.value in
    let version : version_of (d.kept ++ near) ≡ Some c.in-Some.version = ap (λ x. version_of (x ++ near)) (sym c.deref.ensures.value) ∙ sym c.version_across.ensures ∙ c.in-Some.is in
    let m : ℕ = c.min.result in
    let room : 65536 - c.len-room.result ≡ 65536 - length d.kept = ap (λ k. 65536 - k) (c.len-room.ensures ∙ sym c.len.ensures ∙ size) in
    let none : head_len (d.kept ++ near) ≡ None = head_none d.kept near (65536 - c.len-room.result) m c.self.invariant.room room c.min.ensures (ap (λ x. empty_line (x ++ take m near)) (sym c.deref-2.ensures.value) ∙ c.in_default-find_end.ensures.end) in
    let few : m ≡ length near = omega (arith, c.min.ensures, c.if-front-room.false, length-take m near) in
    let all : take m near ≡ near = take_all m near (omega (arith, few)) in
    let small : length (d.kept ++ near) < 65536 = omega (arith, length-append d.kept near, few, c.min.ensures, c.if-front-room.false, length-take m near, room, c.self.invariant.room) in
    subst (Refuses at text reported) (sym c.at-then-crosses.ensures) (too_long at text (taken ++ near) reported front.front (front.beyond ∙ c.if-crosses.true) (lies_in_head at taken reported d near c.in-Some.version now head version none small))

pub returns-then-is_err-clause-history : goal.returns-then-is_err-clause-history
returns-then-is_err-clause-history g c = λ at taken text reported ph s front.
    let d : State = record { phase = c.self.inside.phase; position = c.self.inside.position; kept = c.self.inside.head.items; left = c.self.inside.left; matched = c.self.inside.matched } in
    let is : d ≡ c.args.self.now = c.self.view_is in
    let now : IsAt at taken reported d = subst (λ x. IsAt at taken reported x) (sym is) s in
    let head : d.phase ≡ phases.Head = ap (λ (x : State). x.phase) is ∙ ph in
    let near : List ℕ = c.args.near.now in
    let size : c.len.result ≡ length d.kept = c.len.ensures ∙ sym c.deref.ensures.len ∙ ap length c.deref.ensures.value in
    subst (Refuses at text reported) (sym c.at-then-is_err.ensures) (no_memory at taken reported d text near (fault kinds.Memory (d.position - c.len.result)) now head front.front (omega (arith, size)))

pub returns-clause-history : goal.returns-clause-history
returns-clause-history g c = λ at taken text reported ph s front.
    let d : State = record { phase = c.self.inside.phase; position = c.self.inside.position; kept = c.self.inside.head.items; left = c.self.inside.left; matched = c.self.inside.matched } in
    let is : d ≡ c.args.self.now = c.self.view_is in
    let now : IsAt at taken reported d = subst (λ x. IsAt at taken reported x) (sym is) s in
    let head : d.phase ≡ phases.Head = ap (λ (x : State). x.phase) is ∙ ph in
    let near : List ℕ = c.args.near.now in
    let size : c.len.result ≡ length d.kept = c.len.ensures ∙ sym c.deref.ensures.len ∙ ap length c.deref.ensures.value in
    let version : version_of (d.kept ++ near) ≡ Some c.in-Some.version = ap (λ x. version_of (x ++ near)) (sym c.deref.ensures.value) ∙ sym c.version_across.ensures ∙ c.in-Some.is in
    let m : ℕ = c.min.result in
    let room : 65536 - c.len-room.result ≡ 65536 - length d.kept = ap (λ k. 65536 - k) (c.len-room.ensures ∙ sym c.len.ensures ∙ size) in
    let none : head_len (d.kept ++ near) ≡ None = head_none d.kept near (65536 - c.len-room.result) m c.self.invariant.room room c.min.ensures (ap (λ x. empty_line (x ++ take m near)) (sym c.deref-2.ensures.value) ∙ c.in_default-find_end.ensures.end) in
    let few : m ≡ length near = omega (arith, c.min.ensures, c.if-front-room.false, length-take m near) in
    let all : take m near ≡ near = take_all m near (omega (arith, few)) in
    let small : length (d.kept ++ near) < 65536 = omega (arith, length-append d.kept near, few, c.min.ensures, c.if-front-room.false, length-take m near, room, c.self.invariant.room) in
    let kept = extended c.extend_from_slice.result (d.kept ++ take m near) d.kept c.extend_from_slice.new.self.items (sym c.is_err.ensures.value ∙ c.if-is_err.false) c.extend_from_slice.ensures.items in
    let cut : take (length (take m near)) near ≡ near = take_all (length (take m near)) near (omega (arith, ap length all)) in
    let e : State = record { phase = d.phase; position = d.position + length (take m near); kept = c.extend_from_slice.new.self.items; left = d.left; matched = d.matched } in
    let P : List ℕ → Type 0 = λ x. IsAt at (taken ++ x) reported e in
    record {
      may = tt;
      exact = tt;
      is_at = subst P (sym cut) (head_more_at at taken reported d e near c.in-Some.version now head version none small head (kept ∙ ap (λ x. d.kept ++ x) all) (ap (λ x. d.position + length x) all));
    }
