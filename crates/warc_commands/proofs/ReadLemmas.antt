-- What a command reads of its source.
use Rattle.std.proofs.Common.{◌≡◌, ℕ, ◌+◌, ◌*◌, ◌-◌, ◌<◌, ◌≤◌, Bool, List, [], ◌∷◌, length, map, Option, None, Some, Result, Ok, length-append, length-take, take, refl, sym, ap, subst, ◌∙◌, arith}
use Rattle.std.specs.List.{All, AllByRecursion, Contains, slice_get, sum_by}
use Rattle.std.proofs.lemmas.List.Elements.{All-cons, All-contains, All-nil}
use Rattle.std.proofs.lemmas.List.Sums.{sum_by-cons}
use Rattle.warc_frame.specs.Count.{raised}
use Rattle.warc_frame.specs.Ranges.{IsReadAt}
use Rattle.warc_frame.specs.Record.{Record, max_archive, max_block}
use Rattle.warc_frame.specs.Seen.{AsksOnly, IfHeld, InOrder, IsInRange, Seen, SeenSource}
use Rattle.warc_frame.specs.declared.fault.Fault.{Fault}
use Rattle.warc_frame.specs.declared.fault.OutFault.{OutFault}
use Rattle.warc_index.specs.declared.unfound.Unfound.{Unfound}
use Rattle.warc_answer.specs.declared.answer.Path.{Path}
use Rattle.warc_reading.specs.Archive.{IsArchiveOf, SpellsFrom, contents}
use Rattle.warc_lookup.specs.Indexed.{Archived, IsIndexed}
use Rattle.warc_reading.specs.Opening.{Opens}
use Rattle.warc_reading.specs.Row.{Placed, Row, row_of}
use Rattle.warc_reading.proofs.FitLemmas.{front_size}
use Rattle.warc_reading.proofs.SourceLemmas.{raised_by_one}
use Rattle.warc_reading.proofs.PlacedLemmas.{placed}
use Rattle.warc_frame.specs.Effects.{ReadsOnly}
use Rattle.warc_rewrite.specs.Forms.{read_len, split_len}
use Rattle.warc_reading.specs.Placing.{IsInAnyRow}
use Rattle.warc.specs.Front.{CopiesFront, OpensFront}
use Rattle.warc_replay.specs.Parts.{IsInPart, ReadsPart, found_len}
use Rattle.warc_replay.specs.Replaying.{AsksInside, ReadsPath}
use Rattle.warc_rewrite.specs.Selected.{HasBytesOf}
use Rattle.warc_rewrite.specs.Selecting.{IsInAnyRecord, at_positions}
use Rattle.warc_rewrite.proofs.SelectLemmas.{all_at, has_bytes}
use Rattle.warc_rewrite.proofs.SelectionLaws.{selection_short}
use Rattle.warc_rewrite.specs.declared.forms.Form.{Form}
use Rattle.warc_replay.specs.declared.record.part.Part.{Part}
use Rattle.warc_replay.specs.declared.record.part.Part.TheVariants.{Head, Block}
use Rattle.warc.proofs.FrontLemmas.{front_begins}
use Rattle.warc_replay.proofs.JoinedLemmas.{path_short}
use Rattle.warc_reading.proofs.RemainLemmas.{written}
use Rattle.warc_reading.specs.Rereading.{IsInHead, heads_len}
use Rattle.warc_commands.specs.Closed.{ReadsClosed}
use Rattle.warc_commands.specs.Asking.{AsksFar, HasAsked, HasReadFront, ReadsFront}
use Rattle.warc_commands.specs.Reads.{AsksNear, ReadsForRecord, ReadsInOrder, ReadsTimes}
use Rattle.warc_commands.specs.Selected.{ReadsSome}

-- one more read, of these bytes alone
asks_more : (These : ℕ → Type 0) (old mid new : SeenSource) (at len : ℕ) → mid.watches ≡ old.watches → AsksOnly These old mid → AsksOnly (IsInRange at len) mid new → ((q : ℕ) → IsInRange at len q → These q)
    → AsksOnly These old new
asks_more These old mid new at len watched first then wanted =
    λ off. then (λ q in_. ap (λ (w : ℕ → Bool). w q) watched ∙ off q (wanted q in_)) ∙ first off

-- ---- the front of a file

pub front_within : (bytes items : List ℕ) → items ≡ take (length items) bytes → length items ≤ length bytes
front_within bytes items is = omega (arith, ap (λ (l : List ℕ). length l) is ∙ length-take (length items) bytes)

pub front_none : (most room : ℕ) (items : List ℕ) (s : SeenSource) → HasReadFront most room items s s
front_none most room items s = record { near = λ off. refl; close = λ bytes held off. refl; cost = omega arith; watched = refl }

pub front_done : (most room : ℕ) (items : List ℕ) (old new : SeenSource) → HasReadFront most room items old new → ((bytes : List ℕ) → old.holds ≡ Some bytes → length items ≤ length bytes) → ReadsFront most room old new
front_done most room items old new has within = record {
  near = has.near;
  close = has.close;
  cost = λ bytes held. omega (arith, has.cost, within bytes held);
  watched = has.watched;
}

module _ (most room : ℕ) (items : List ℕ) (old mid new : SeenSource) (at len : ℕ) (has : HasReadFront most room items old mid) (watched : new.watches ≡ mid.watches) (counted : new.reads ≡ raised mid.reads)
    (asks : AsksOnly (IsInRange at len) mid new) (here : at ≡ length items) (fits : at + len ≤ most) (few : len ≤ room) (within : (bytes : List ℕ) → old.holds ≡ Some bytes → length items ≤ length bytes) where
  near_front : AsksOnly (λ q. q < most) old new
  near_front = asks_more (λ q. q < most) old mid new at len has.watched has.near asks (λ q in_. omega (arith, in_.1, fits))

  close_front : IfHeld old.holds (λ bytes. AsksOnly (λ q. q < length bytes + room) old new)
  close_front bytes held =
      asks_more (λ q. q < length bytes + room) old mid new at len has.watched (has.close bytes held) asks (λ q in_. omega (arith, in_.1, few, here, within bytes held))

  -- a read that failed, or gave nothing, or whose bytes have no room
  pub front_last : ReadsFront most room old new
  front_last = record {
    near = near_front;
    close = close_front;
    cost = λ bytes held. omega (arith, has.cost, counted, raised_by_one mid.reads, within bytes held);
    watched = watched ∙ has.watched;
  }

  pub front_more : (next : List ℕ) → length items + 1 ≤ length next → HasReadFront most room next old new
  front_more next more = record {
    near = near_front;
    close = close_front;
    cost = omega (arith, has.cost, counted, raised_by_one mid.reads, more);
    watched = watched ∙ has.watched;
  }

-- ---- single bytes

pub asked_none : (s : SeenSource) → HasAsked 65536 s s
asked_none s = record { near = λ off. refl; close = λ bytes held off. refl; far = λ bytes held. omega arith; cost = omega arith; watched = refl }

module _ (place next : ℕ) (old mid new : SeenSource) (failed : Bool) (has : HasAsked next old mid) (read : IsReadAt place 1 failed mid new) (here : place ≤ next) (low : place ≤ max_block) where
  near_asked : AsksOnly (λ q. q ≤ max_block) old new
  near_asked = asks_more (λ q. q ≤ max_block) old mid new place 1 has.watched has.near read.asks (λ q in_. omega (arith, in_.1, low))

  close_asked : IfHeld old.holds (λ bytes. AsksOnly (λ q. q ≤ 2 * length bytes + 65536) old new)
  close_asked bytes held =
      asks_more (λ q. q ≤ 2 * length bytes + 65536) old mid new place 1 has.watched (has.close bytes held) read.asks (λ q in_. omega (arith, in_.1, here, has.far bytes held))

  pub asked_last : AsksFar old new
  asked_last = record {
    near = near_asked;
    close = close_asked;
    cost = λ bytes held. omega (arith, has.cost, has.far bytes held, read.counted, raised_by_one mid.reads);
    watched = read.watched ∙ has.watched;
  }

  -- a byte is there, and the next one is twice as far out
  pub asked_more : (after : ℕ) → after ≡ next * 2 → 65536 ≤ next → ((bytes : List ℕ) → old.holds ≡ Some bytes → next < length bytes) → HasAsked after old new
  asked_more after twice out there = record {
    near = near_asked;
    close = close_asked;
    far = λ bytes held. omega (arith, twice, there bytes held);
    cost = omega (arith, has.cost, twice, out, read.counted, raised_by_one mid.reads);
    watched = read.watched ∙ has.watched;
  }

-- ---- a file of which a record is made

pub far_alone : (old new : SeenSource) → AsksFar old new → ReadsForRecord old new
far_alone old new far = record { near = far.near; close = far.close; cost = λ bytes held. omega (arith, far.cost bytes held) }

pub far_then_front : (old mid new : SeenSource) → AsksFar old mid → mid.holds ≡ old.holds → ReadsFront (max_block + 1) 65536 mid new → ReadsForRecord old new
far_then_front old mid new far kept front = record {
  near = λ off. front.near (λ q low. ap (λ (w : ℕ → Bool). w q) far.watched ∙ off q (omega (arith, low))) ∙ far.near off;
  close = λ bytes held off.
      front.close bytes (kept ∙ held) (λ q low. ap (λ (w : ℕ → Bool). w q) far.watched ∙ off q (omega (arith, low))) ∙ far.close bytes held off;
  cost = λ bytes held. omega (arith, far.cost bytes held, front.cost bytes (kept ∙ held));
}

-- ---- an archive

-- as opening reads it
pub opened : {X : Type 0} {Is : List ℕ → X → Type 0} {old mid new : SeenSource} {answer : Result X Fault} → Opens Is old mid answer → new ≡ mid → ReadsTimes 1 old new
opened {X} {Is} {old} {mid} {new} {answer} opens same =
    let once : ReadsTimes 1 old mid = record { near = opens.reads.near; cost = λ bytes held. omega (arith, opens.cost bytes held) } in
    let P : SeenSource → Type 0 = λ t. ReadsTimes 1 old t in
    subst P (sym same) once

pub opened_in_order : {X : Type 0} {Is : List ℕ → X → Type 0} {old mid new : SeenSource} {answer : Result X Fault} → Opens Is old mid answer → new ≡ mid → ReadsInOrder old new
opened_in_order {X} {Is} {old} {mid} {new} {answer} opens same =
    let P : SeenSource → Type 0 = λ t. InOrder 0 old t in
    record { times = opened opens same; order = subst P (sym same) opens.order }

pub unread : (s : SeenSource) → ReadsTimes 1 s s
unread s = record { near = λ off. refl; cost = λ bytes held. omega arith }

pub twice_at_most : {old new : SeenSource} → ReadsTimes 1 old new → ReadsTimes 2 old new
twice_at_most is = record { near = is.near; cost = λ bytes held. omega (arith, is.cost bytes held) }

pub thrice_at_most : {old new : SeenSource} → ReadsTimes 1 old new → ReadsTimes 3 old new
thrice_at_most is = record { near = is.near; cost = λ bytes held. omega (arith, is.cost bytes held) }

pub four_times_at_most : {old new : SeenSource} → ReadsTimes 1 old new → ReadsTimes 4 old new
four_times_at_most is = record { near = is.near; cost = λ bytes held. omega (arith, is.cost bytes held) }

-- then of other bytes, which lie in it
near_then : (These : ℕ → Type 0) (old mid new : SeenSource) → mid.watches ≡ old.watches → AsksNear old mid → ((q : ℕ) → These q → q ≤ max_archive) → AsksOnly These mid new → AsksNear old new
near_then These old mid new watched first inside then = λ off. then (λ q in_. ap (λ (w : ℕ → Bool). w q) watched ∙ off q (inside q in_)) ∙ first off

-- where the record of a row is
record RowLies (bytes : List ℕ) (row : Row) : Type 0 where
  order : row.offset ≤ row.block_start
  end : row.block_start + row.block_len ≤ length bytes

row_lies : (bytes : List ℕ) (rows : List Row) (is : IsArchiveOf bytes rows) (place : ℕ) (row : Row) → slice_get rows place ≡ Some row → RowLies bytes row
row_lies bytes rows is place row at =
    let (p, there, same) = placed is.are.records place row (sym (ap (λ l. slice_get l place) is.are.rows_are) ∙ at) in
    let has = written bytes is.are.records is.are.spelled place p there in
    let offset = ap (λ (r : Row). r.offset) same in
    let start = ap (λ (r : Row). r.block_start) same in
    let len = ap (λ (r : Row). r.block_len) same in
    record { order = omega (arith, offset, start, has.order); end = omega (arith, offset, start, len, has.end, has.within) }

in_part : (part : Part) (bytes : List ℕ) (rows : List Row) (is : IsArchiveOf bytes rows) (place : ℕ) (found : Option Row) → slice_get rows place ≡ found → (q : ℕ) → IsInPart part found q → q ≤ max_archive
in_part part bytes rows is place None at q in_ = absurd in_
in_part Head bytes rows is place (Some row) at q in_ = let lies = row_lies bytes rows is place row at in omega (arith, in_.1, lies.order, lies.end, is.short)
in_part Block bytes rows is place (Some row) at q in_ = let lies = row_lies bytes rows is place row at in omega (arith, in_.1, lies.end, is.short)

part_short : (part : Part) (bytes : List ℕ) (rows : List Row) (is : IsArchiveOf bytes rows) (place : ℕ) (found : Option Row) → slice_get rows place ≡ found → found_len part found ≤ length bytes
part_short part bytes rows is place None at = omega arith
part_short Head bytes rows is place (Some row) at = let lies = row_lies bytes rows is place row at in omega (arith, lies.order, lies.end)
part_short Block bytes rows is place (Some row) at = let lies = row_lies bytes rows is place row at in omega (arith, lies.end)

-- the heads and blocks of an archive's records are no longer than it
rows_short : (form : Form) (q : ℕ) (ps : List Placed) (text : List ℕ) → SpellsFrom q ps text → sum_by (read_len form) (map row_of ps) ≤ length text
rows_short form q [] text is = omega arith
rows_short form q (p ∷ ps) text (front, rest, one, at, following, whole, more) =
    omega (arith, rows_short form (q + length front) ps rest more, sum_by-cons (read_len form) (row_of p) (map row_of ps), front_size q q p front one at following, at, following, ap length whole, length-append front rest)

heads_short : (q : ℕ) (ps : List Placed) (text : List ℕ) → SpellsFrom q ps text → heads_len (map row_of ps) ≤ length text
heads_short q [] text is = omega arith
heads_short q (p ∷ ps) text (front, rest, one, at, following, whole, more) =
    omega (arith, heads_short (q + length front) ps rest more, sum_by-cons (λ (r : Row). r.block_start - r.offset) (row_of p) (map row_of ps), front_size q q p front one at following, at, following, ap length whole, length-append front rest)

split_short : (q : ℕ) (ps : List Placed) (text : List ℕ) → SpellsFrom q ps text → sum_by split_len (map row_of ps) ≤ 3 * length text
split_short q [] text is = omega arith
split_short q (p ∷ ps) text (front, rest, one, at, following, whole, more) =
    omega (arith, split_short (q + length front) ps rest more, sum_by-cons split_len (row_of p) (map row_of ps), front_size q q p front one at following, at, following, ap length whole, length-append front rest)

-- what holds of each holds of one of them
all_by : {X : Type 0} (P : X → Type 0) (xs : List X) → AllByRecursion P xs → All P xs
all_by {X} P [] all = All-nil P
all_by {X} P (x ∷ xs) all = All-cons P x xs all.0 (all_by P xs all.1)

each_of : {X : Type 0} (P : X → Type 0) (xs : List X) (x : X) → AllByRecursion P xs → Contains xs x → P x
each_of {X} P xs x all in_ = All-contains P xs x (all_by P xs all) in_

module _ {X : Type 0} {Is : List ℕ → X → Type 0} {old mid last new : SeenSource} {x : X} (rows : List Row) (of : (bytes : List ℕ) → Is bytes x → IsArchiveOf bytes rows) (opens : Opens Is old mid (Ok x)) (same : new ≡ last) where
  left : (times : ℕ) → ReadsTimes times old last → ReadsTimes times old new
  left times is = let P : SeenSource → Type 0 = λ t. ReadsTimes times old t in subst P (sym same) is

  pub part_read : (part : Part) (place : ℕ) → ReadsPart part (slice_get rows place) mid last → ReadsTimes 2 old new
  part_read part place reads = left 2 (record {
    near = near_then _ old mid last opens.reads.watched opens.reads.near (in_part part opens.some.0 rows (of opens.some.0 opens.some.1) place (slice_get rows place) refl) reads.near;
    cost = λ bytes held. omega (arith, opens.cost bytes held, reads.bound, part_short part bytes rows (of bytes (opens.accepted bytes held)) place (slice_get rows place) refl);
  })

  in_rows : (q : ℕ) → IsInAnyRow rows q → q ≤ max_archive
  in_rows q in_ =
      let is = of opens.some.0 opens.some.1 in
      let lies = row_lies opens.some.0 rows is in_.place in_.row in_.is in
      omega (arith, in_.inside.1, lies.end, is.short)

  each_near : (most : ℕ) → ReadsOnly (IsInAnyRow rows) most mid last → AsksNear old last
  each_near most reads = near_then (IsInAnyRow rows) old mid last opens.reads.watched opens.reads.near in_rows reads.near

  pub each_read : (form : Form) → ReadsOnly (IsInAnyRow rows) (sum_by (read_len form) rows) mid last → ReadsTimes 2 old new
  each_read form reads = left 2 (record {
    near = each_near _ reads;
    cost = λ bytes held. let is = of bytes (opens.accepted bytes held) in omega (arith, opens.cost bytes held, reads.bound, ap (sum_by (read_len form)) is.are.rows_are, rows_short form 0 is.are.records bytes is.are.spelled);
  })

  pub each_split : ReadsOnly (IsInAnyRow rows) (sum_by split_len rows) mid last → ReadsTimes 4 old new
  each_split reads = left 4 (record {
    near = each_near _ reads;
    cost = λ bytes held. let is = of bytes (opens.accepted bytes held) in omega (arith, opens.cost bytes held, reads.bound, ap (sum_by split_len) is.are.rows_are, split_short 0 is.are.records bytes is.are.spelled);
  })

  -- some records are read
  in_some : (positions : List ℕ) (q : ℕ) → IsInAnyRecord (at_positions rows positions) q → q ≤ max_archive
  in_some positions q in_ =
      let bytes = opens.some.0 in
      let is = of bytes opens.some.1 in
      let has = each_of (HasBytesOf bytes) (at_positions rows positions) in_.row (all_at (HasBytesOf bytes) rows positions (has_bytes bytes rows is)) in_.is in
      omega (arith, in_.inside.1, has.0, is.short)

  pub some_read : ReadsSome rows mid last → ReadsTimes 2 old new
  some_read some = left 2 (record {
    near = near_then (IsInAnyRecord (at_positions rows some.positions)) old mid last opens.reads.watched opens.reads.near (in_some some.positions) some.reads.near;
    cost = λ bytes held. omega (arith, opens.cost bytes held, some.reads.bound, selection_short bytes rows some.positions (of bytes (opens.accepted bytes held)) some.ascending);
  })

  -- heads are read, and then some records
  in_heads : (q : ℕ) → IsInHead rows q → q ≤ max_archive
  in_heads q in_ =
      let is = of opens.some.0 opens.some.1 in
      let lies = row_lies opens.some.0 rows is in_.place in_.row in_.is in
      omega (arith, in_.to, lies.end, is.short)

  pub closed_read : ReadsClosed rows mid last → ReadsTimes 3 old new
  closed_read closed =
      let some = closed.some in
      let heads = near_then (IsInHead rows) old mid closed.mid opens.reads.watched opens.reads.near in_heads closed.heads.near in
      left 3 (record {
        near = near_then (IsInAnyRecord (at_positions rows some.positions)) old closed.mid last (closed.heads.watched ∙ opens.reads.watched) heads (in_some some.positions) some.reads.near;
        cost = λ bytes held.
            let is = of bytes (opens.accepted bytes held) in
            omega (arith, opens.cost bytes held, closed.heads.bound, ap (λ l. heads_len l) is.are.rows_are, heads_short 0 is.are.records bytes is.are.spelled, some.reads.bound, selection_short bytes rows some.positions is some.ascending);
      })

-- what a replay asks for is in the archive
inside_near : {S : Type 0} {old mid : SeenSource} {archive : Archived S} (last : SeenSource) → Opens IsIndexed old mid (Ok archive)
    → AsksInside archive.listing.rows archive.index archive.parts mid last → AsksNear old last
inside_near {S} {old} {mid} {archive} last opens inside =
    let is = opens.some.1 in
    near_then (λ at. at < length opens.some.0) old mid last opens.reads.watched opens.reads.near (λ q low. omega (arith, low, is.listed.short)) (inside opens.some.0 (is.listed, is.kept))

pub replay_near : {S : Type 0} {old mid last new : SeenSource} {archive : Archived S} → Opens IsIndexed old mid (Ok archive) → new ≡ last
    → AsksInside archive.listing.rows archive.index archive.parts mid last → AsksNear old new
replay_near {S} {old} {mid} {last} {new} {archive} opens same inside =
    let P : SeenSource → Type 0 = λ t. AsksNear old t in
    subst P (sym same) (inside_near last opens inside)

-- what is made of an archive reads no byte above offset 2^48
pub listed_near : {X : Type 0} {Is : List ℕ → X → Type 0} {old mid last new : SeenSource} {archive : X} → Opens Is old mid (Ok archive) → new ≡ last
    → ((bytes : List ℕ) → Is bytes archive → length bytes ≤ max_archive) → ((bytes : List ℕ) → Is bytes archive → AsksOnly (λ at. at < length bytes) mid last) → AsksNear old new
listed_near {X} {Is} {old} {mid} {last} {new} {archive} opens same short inside =
    let P : SeenSource → Type 0 = λ t. AsksNear old t in
    let near = near_then (λ at. at < length opens.some.0) old mid last opens.reads.watched opens.reads.near (λ q low. omega (arith, low, short opens.some.0 opens.some.1)) (inside opens.some.0 opens.some.1) in
    subst P (sym same) near

-- and is read in at most twice as many reads as the archive has bytes
pub replay_read : {S : Type 0} {old mid last new : SeenSource} {archive : Archived S} (way : List Record → Result Path Unfound) → Opens IsIndexed old mid (Ok archive) → new ≡ last
    → ReadsPath 2 archive.listing.rows archive.index archive.parts way mid last → AsksInside archive.listing.rows archive.index archive.parts mid last → ReadsTimes 3 old new
replay_read {S} {old} {mid} {last} {new} {archive} way opens same reads inside =
    let read : ReadsTimes 3 old last = record {
      near = inside_near last opens inside;
      cost = λ bytes held.
          let is = opens.accepted bytes held in
          let path = reads bytes (opens.reads.kept ∙ held) is.listed is.kept in
          omega (arith, opens.cost bytes held, path.bound, path_short bytes is.listed.are.records (way (contents is.listed.are.records)) is.listed.are.spelled);
    } in
    let P : SeenSource → Type 0 = λ t. ReadsTimes 3 old t in
    subst P (sym same) read

-- a front is opened, and its records are copied
pub front_read : {rows : List Row} {found : Option Fault} {old mid last new : SeenSource} {before after : Seen} {answer : Result ℕ OutFault} → OpensFront old mid rows found
    → CopiesFront rows mid last before after answer → new ≡ last → ReadsTimes 2 old new
front_read {rows} {found} {old} {mid} {last} {new} opened copies same =
    let reads : ReadsTimes 2 old last = record {
      near = near_then (IsInRange 0 max_archive) old mid last opened.opens.reads.watched opened.opens.reads.near (λ q in_. omega (arith, in_.1)) copies.near.near;
      cost = λ bytes held.
          let (text, more, whole, archive) = front_begins bytes found rows (opened.rows_are bytes held) in
          omega (arith, opened.opens.cost bytes held, (copies.reads text archive).bound, ap length whole, length-append text more);
    } in
    let P : SeenSource → Type 0 = λ t. ReadsTimes 2 old t in
    subst P (sym same) reads
