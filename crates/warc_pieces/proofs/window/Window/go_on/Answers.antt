use Rattle.std.proofs.Common.{◌≡◌, ℕ, ◌+◌, ◌-◌, ◌≤◌, ◌<◌, Bool, true, false, ◌++◌, length, drop, take, slice_range, Ok, refl, ap, sym, subst, ◌∙◌, arith, length-drop}
use Rattle.warc_frame.specs.Device.{Gives}
use Rattle.warc_frame.specs.Record.{max_archive}
use Rattle.warc_pieces.specs.Pieces.{near}
use Rattle.warc_pieces.specs.Window.{Shown, Shows, reached}
use Rattle.warc_pieces.proofs.WindowLemmas.{at_end, at_limit, buffer_whole, goes_further, part_kept, part_len, part_more, read_by, still_shows}
use Rattle.warc_pieces.proofs.window.Window.go_on.Goals as goal

abbrev begin_of : Shown → ℕ
begin_of w = w.begin

abbrev last_of : Shown → Bool
last_of w = w.is_last

pub returns-then-at-ge-MAX_ARCHIVE-clause-shows : goal.returns-then-at-ge-MAX_ARCHIVE-clause-shows
returns-then-at-ge-MAX_ARCHIVE-clause-shows g c = λ bytes held shows.
    let w = c.self.inside in
    let far : max_archive ≤ w.begin + length (slice_range w.buf.items w.start w.end) = omega (arith, c.if-at-ge-MAX_ARCHIVE.true, part_len w.buf.items w.start w.end c.self.invariant.within) in
    at_limit bytes _ (subst (Shows bytes) (sym c.self.view_is) shows) far

pub returns-in-Ok-eq0-clause-shows : goal.returns-in-Ok-eq0-clause-shows
returns-in-Ok-eq0-clause-shows g c = λ bytes held shows.
    let w = c.self.inside in
    let t = c.make_room-self-inside.result in
    let k = w.end - w.start in
    let mid = c.make_room-self-inside.new.buf in
    let new = c.read_after.new.buf in
    let mid_len : length mid ≡ w.buf.len = c.make_room-self-inside.ensures.len ∙ c.as_mut_slice.ensures.len in
    let second : c.as_mut_slice-2.result.now ≡ mid = c.as_mut_slice-2.ensures.value ∙ buffer_whole w.buf.len mid w.buf.items mid_len in
    let new_len : length new ≡ w.buf.len = c.read_after.ensures.len ∙ ap length second ∙ mid_len in
    let kept = part_kept w.buf.items c.as_mut_slice.result.now mid c.as_mut_slice-2.result.now new w.start w.end t c.as_mut_slice.ensures.value c.make_room-self-inside.ensures.same second c.read_after.ensures.before in
    let whole = buffer_whole w.buf.len new (take w.buf.len (mid ++ drop (length mid) w.buf.items)) new_len in
    let size = part_len w.buf.items w.start w.end c.self.invariant.within in
    let zero : c.in-Ok-eq0.field-0 ≡ 0 = omega (arith, c.in-Ok-eq0.field-0-test) in
    let room : 0 < length (drop (t + k) new) = omega (arith, length-drop (t + k) new, new_len, mid_len, c.make_room-self-inside.ensures.room, c.make_room-self-inside.ensures.len) in
    at_end bytes _ (drop (t + k) new) _ (subst (Shows bytes) (sym c.self.view_is) shows) (ap (λ xs. slice_range xs t (t + k)) whole ∙ kept)
    (subst (λ a. Gives (near bytes) (w.begin + a) (drop (t + k) new) 0) (sym size) (subst (λ n. Gives (near bytes) (w.begin + k) (drop (t + k) new) n) zero (c.in-Ok-eq0.ensures.bytes bytes held))) room

pub returns-in-Ok-eq0-clause-reads : goal.returns-in-Ok-eq0-clause-reads
returns-in-Ok-eq0-clause-reads g c =
    let w = c.self.inside in
    let t = c.make_room-self-inside.result in
    let k = w.end - w.start in
    let mid = c.make_room-self-inside.new.buf in
    let new = c.read_after.new.buf in
    let mid_len : length mid ≡ w.buf.len = c.make_room-self-inside.ensures.len ∙ c.as_mut_slice.ensures.len in
    let second : c.as_mut_slice-2.result.now ≡ mid = c.as_mut_slice-2.ensures.value ∙ buffer_whole w.buf.len mid w.buf.items mid_len in
    let new_len : length new ≡ w.buf.len = c.read_after.ensures.len ∙ ap length second ∙ mid_len in
    let kept = part_kept w.buf.items c.as_mut_slice.result.now mid c.as_mut_slice-2.result.now new w.start w.end t c.as_mut_slice.ensures.value c.make_room-self-inside.ensures.same second c.read_after.ensures.before in
    let whole = buffer_whole w.buf.len new (take w.buf.len (mid ++ drop (length mid) w.buf.items)) new_len in
    read_by (Ok false) false 1 1 _ _ _ _ c.in-Ok-eq0.ensures.read refl (omega (arith, ap length (ap (λ xs. slice_range xs t (t + k)) whole ∙ kept), ap reached c.self.view_is)) (omega (arith, ap begin_of c.self.view_is))

pub returns-in-Ok-clause-shows : goal.returns-in-Ok-clause-shows
returns-in-Ok-clause-shows g c = λ bytes held shows.
    let w = c.self.inside in
    let t = c.make_room-self-inside.result in
    let k = w.end - w.start in
    let mid = c.make_room-self-inside.new.buf in
    let new = c.read_after.new.buf in
    let mid_len : length mid ≡ w.buf.len = c.make_room-self-inside.ensures.len ∙ c.as_mut_slice.ensures.len in
    let second : c.as_mut_slice-2.result.now ≡ mid = c.as_mut_slice-2.ensures.value ∙ buffer_whole w.buf.len mid w.buf.items mid_len in
    let new_len : length new ≡ w.buf.len = c.read_after.ensures.len ∙ ap length second ∙ mid_len in
    let kept = part_kept w.buf.items c.as_mut_slice.result.now mid c.as_mut_slice-2.result.now new w.start w.end t c.as_mut_slice.ensures.value c.make_room-self-inside.ensures.same second c.read_after.ensures.before in
    let whole = buffer_whole w.buf.len new (take w.buf.len (mid ++ drop (length mid) w.buf.items)) new_len in
    let size = part_len w.buf.items w.start w.end c.self.invariant.within in
    let more = ap (λ xs. slice_range xs t (t + k + c.in-Ok.n)) whole ∙ part_more new t k c.in-Ok.n ∙ ap (λ xs. xs ++ take c.in-Ok.n (drop (t + k) new)) kept in
    let few : c.in-Ok.n ≤ length (drop (t + k) new) = omega (arith, length-drop (t + k) new, c.read_after.ensures.len, c.in-Ok.ensures.bound) in
    goes_further bytes _ (drop (t + k) new) c.in-Ok.n _ (subst (Shows bytes) (sym c.self.view_is) shows) (ap last_of c.self.view_is ∙ c.requires.open) more few
    (subst (λ a. Gives (near bytes) (w.begin + a) (drop (t + k) new) c.in-Ok.n) (sym size) (c.in-Ok.ensures.bytes bytes held))

pub returns-in-Ok-clause-reads : goal.returns-in-Ok-clause-reads
returns-in-Ok-clause-reads g c =
    let w = c.self.inside in
    let t = c.make_room-self-inside.result in
    let k = w.end - w.start in
    let mid = c.make_room-self-inside.new.buf in
    let new = c.read_after.new.buf in
    let mid_len : length mid ≡ w.buf.len = c.make_room-self-inside.ensures.len ∙ c.as_mut_slice.ensures.len in
    let second : c.as_mut_slice-2.result.now ≡ mid = c.as_mut_slice-2.ensures.value ∙ buffer_whole w.buf.len mid w.buf.items mid_len in
    let new_len : length new ≡ w.buf.len = c.read_after.ensures.len ∙ ap length second ∙ mid_len in
    let kept = part_kept w.buf.items c.as_mut_slice.result.now mid c.as_mut_slice-2.result.now new w.start w.end t c.as_mut_slice.ensures.value c.make_room-self-inside.ensures.same second c.read_after.ensures.before in
    let whole = buffer_whole w.buf.len new (take w.buf.len (mid ++ drop (length mid) w.buf.items)) new_len in
    let now = part_len new t (t + k + c.in-Ok.n) (omega (arith, c.read_after.ensures.len, c.in-Ok.ensures.bound)) in
    let size = part_len w.buf.items w.start w.end c.self.invariant.within in
    read_by (Ok true) false 1 0 _ _ _ _ c.in-Ok.ensures.read refl (omega (arith, ap length (ap (λ xs. slice_range xs t (t + k + c.in-Ok.n)) whole), now, size, ap reached c.self.view_is, c.in-Ok.n-test)) (omega (arith, ap begin_of c.self.view_is))

pub returns-in-Err-clause-shows : goal.returns-in-Err-clause-shows
returns-in-Err-clause-shows g c = λ bytes held shows.
    let w = c.self.inside in
    let t = c.make_room-self-inside.result in
    let k = w.end - w.start in
    let mid = c.make_room-self-inside.new.buf in
    let new = c.read_after.new.buf in
    let mid_len : length mid ≡ w.buf.len = c.make_room-self-inside.ensures.len ∙ c.as_mut_slice.ensures.len in
    let second : c.as_mut_slice-2.result.now ≡ mid = c.as_mut_slice-2.ensures.value ∙ buffer_whole w.buf.len mid w.buf.items mid_len in
    let new_len : length new ≡ w.buf.len = c.read_after.ensures.len ∙ ap length second ∙ mid_len in
    let kept = part_kept w.buf.items c.as_mut_slice.result.now mid c.as_mut_slice-2.result.now new w.start w.end t c.as_mut_slice.ensures.value c.make_room-self-inside.ensures.same second c.read_after.ensures.before in
    let whole = buffer_whole w.buf.len new (take w.buf.len (mid ++ drop (length mid) w.buf.items)) new_len in
    still_shows bytes _ _ (subst (Shows bytes) (sym c.self.view_is) shows) (ap (λ xs. slice_range xs t (t + k)) whole ∙ kept)
