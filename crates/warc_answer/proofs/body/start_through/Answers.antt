use Rattle.std.proofs.Common.{rules, ℕ, List, length, refl}
use Rattle.warc_answer.specs.Places.{text_at}
use Rattle.warc_answer.proofs.GiveLemmas.{front_is, some_front, info_at, none_at, coded_body, plain_body, head_within}
use Rattle.warc_answer.proofs.body.start_through.Goals as goal

pub returns-in-Err-body_start : goal.returns-in-Err-body_start
returns-in-Err-body_start g c = record {
  begun = λ bytes held lie.
      let text : List ℕ = text_at c.args.places.now bytes in
      let judged = some_front _ _ _ _ _ c.in-Ok-Some.field-0-is (c.in-Ok-Some.ensures.judged bytes held lie) in
      let same = front_is bytes c.args.places.now c.judge_blocks.new.front c.in-Ok-Some.n (length c.args.front.now) lie c.requires judged.1 in
      (judged.0, c.front_has_no_head.ensures text (none_at _ text same c.in-Err-body_start.ensures.none));
  early = tt;
  device = search rules;
  reads = search rules;
  fails = search rules;
}

pub returns-in-Ok : goal.returns-in-Ok
returns-in-Ok g c = record {
  begun = λ bytes held lie.
      let text : List ℕ = text_at c.args.places.now bytes in
      let judged = some_front _ _ _ _ _ c.in-Ok-Some.field-0-is (c.in-Ok-Some.ensures.judged bytes held lie) in
      let same = front_is bytes c.args.places.now c.judge_blocks.new.front c.in-Ok-Some.n (length c.args.front.now) lie c.requires judged.1 in
      let info = c.in-Ok.info in
      let found = c.in-Ok.ensures.found in
      let is = c.front_has_head.ensures text info found.0 (info_at _ text info found.0 same found.1) in
      (judged.0, coded_body text info found.0 is c.if-info.true);
  early = tt;
  device = search rules;
  reads = search rules;
  fails = search rules;
}

pub returns-in-Ok-2 : goal.returns-in-Ok-2
returns-in-Ok-2 g c = record {
  begun = λ bytes held lie.
      let text : List ℕ = text_at c.args.places.now bytes in
      let judged = some_front _ _ _ _ _ c.in-Ok-Some.field-0-is (c.in-Ok-Some.ensures.judged bytes held lie) in
      let same = front_is bytes c.args.places.now c.judge_blocks.new.front c.in-Ok-Some.n (length c.args.front.now) lie c.requires judged.1 in
      let info = c.in-Ok.info in
      let found = c.in-Ok.ensures.found in
      let is = c.front_has_head.ensures text info found.0 (info_at _ text info found.0 same found.1) in
      (judged.0, (head_within text info found.0 is, (info.status, refl, plain_body text info found.0 is c.if-info.false)));
  early = tt;
  device = search rules;
  reads = search rules;
  fails = search rules;
}
