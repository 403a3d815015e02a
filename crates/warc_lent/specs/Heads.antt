-- What heads say, as numbers and texts for callers in other languages. This project's own notion.
use Rattle.std.specs.Prelude.{◌≡◌, ◌⊎◌, ℕ, ◌-◌, ◌≤◌, List, length, map, take, ◌++◌, Result, Ok, Err}
use Rattle.std.specs.List.{flat_map}
use Rattle.httparse.specs.Spans.{IsResponseOf, IsResponseWithin}
use Rattle.httparse.specs.declared.spans.HeaderSpan.{HeaderSpan}
use Rattle.httparse.specs.declared.spans.ResponseSpans.{ResponseSpans}
use Rattle.warc_answer.specs.declared.answer.Reason.TheVariants.{BadHead}
use Rattle.warc_field.specs.Area.{Pair}
use Rattle.warc_frame.specs.Reading.{Head, any_fields, head_of}
use Rattle.warc_frame.specs.declared.fault.Fault.{Fault}
use Rattle.warc_frame.specs.declared.fault.FaultKind.{FaultKind}
use Rattle.warc_frame.specs.declared.fault.FaultKind.TheVariants.{Memory as NoMemory}
use Rattle.warc_lent.specs.Buffers.{HoldsFront, KeepsAfter}
use Rattle.warc_payload.specs.Head.{HasNoHead, most_field_lines}
use Rattle.warc_lent.specs.Rows.{short_length}
use Rattle.warc_lent.specs.declared.heads.FieldNumbers.{FieldNumbers}
use Rattle.warc_lent.specs.declared.heads.HttpFieldNumbers.{HttpFieldNumbers}
use Rattle.warc_lent.specs.declared.heads.HttpNumbers.{HttpNumbers}
use Rattle.warc_lent.specs.declared.problem.Problem.{Problem}
use Rattle.warc_lent.specs.declared.problem.Problem.TheVariants as problems

-- how long the name and the value of a field are
abbrev pub field_numbers : Pair → FieldNumbers
field_numbers p = record { name_length = short_length p.0; value_length = short_length p.1 }

-- a name, and the value after it
abbrev pub pair_text : Pair → List ℕ
pair_text p = p.0 ++ p.1

-- memory ran out, or the bytes aren't the head that they were
abbrev pub problem_of_head : FaultKind → Problem
problem_of_head NoMemory = problems.Memory
problem_of_head kind = problems.Changed

-- two buffers: how long names and values are, and the names and values
pub record FieldBuffers : Type 0 where
  pub lengths : List FieldNumbers
  pub texts : List ℕ

-- the fields of a head are put, as far as there is room, and their number is answered; what follows them stays
pub record AreFieldsPut (fields : List Pair) (number : ℕ) (old new : FieldBuffers) : Type 0 where
  pub lengths_are : HoldsFront (map field_numbers fields) new.lengths
  pub texts_are : HoldsFront (flat_map pair_text fields) new.texts
  pub number_is : number ≡ length fields
  pub rest : KeepsAfter number old.lengths new.lengths
  pub texts_rest : KeepsAfter (length (flat_map pair_text fields)) old.texts new.texts

-- the fields of the head at the front of the bytes are put; or memory ran out, or there is no such head, and all stays
abbrev pub PutsFields : List ℕ → Result ℕ Problem → FieldBuffers → FieldBuffers → Type 0
PutsFields bytes (Ok number) old new =
    (h : Head) × (head_of any_fields bytes ≡ Ok h) × AreFieldsPut h.fields number old new
PutsFields bytes (Err problem) old new = (new ≡ old) × ((problem ≡ problems.Memory)
    ⊎ ((problem ≡ problems.Changed) × (fault : Fault) × (head_of any_fields bytes ≡ Err fault)))

abbrev pub field_buffers : List FieldNumbers → List ℕ → FieldBuffers
field_buffers lengths texts = record { lengths = lengths; texts = texts }

abbrev pub http_numbers : ResponseSpans → HttpNumbers
http_numbers r = record {
  body_offset = r.len;
  reason_offset = r.reason.start;
  reason_length = r.reason.end - r.reason.start;
  status = r.code;
  minor = r.version;
}

abbrev pub http_field_numbers : HeaderSpan → HttpFieldNumbers
http_field_numbers f = record {
  name_offset = f.name.start;
  name_length = f.name.end - f.name.start;
  value_offset = f.value.start;
  value_length = f.value.end - f.value.start;
}

-- what an HTTP head says, and a buffer of its fields
pub record HttpBuffers : Type 0 where
  pub http : HttpNumbers
  pub fields : List HttpFieldNumbers

-- the spans of a response's head at the front of a text, all of which lie in it, are put, as far as there is room;
-- their number is answered, and what follows them stays
pub record IsHttpPut (text : List ℕ) (number : ℕ) (old new : HttpBuffers) : Type 0 where
  pub spans : List HeaderSpan
  pub head : ResponseSpans
  pub is : IsResponseOf text spans head
  pub within : IsResponseWithin text spans head
  pub few : length spans ≤ most_field_lines
  pub http_is : new.http ≡ http_numbers head
  pub fields_are : HoldsFront (map http_field_numbers (take head.headers spans)) new.fields
  pub number_is : number ≡ head.headers
  pub rest : KeepsAfter number old.fields new.fields

-- what the HTTP head at the front of a text says is put; or there is none, and all stays
abbrev pub PutsHttp : List ℕ → Result ℕ Problem → HttpBuffers → HttpBuffers → Type 0
PutsHttp text (Ok number) old new = IsHttpPut text number old new
PutsHttp text (Err problem) old new = (new ≡ old) × (problem ≡ problems.Reason BadHead) × HasNoHead text

abbrev pub http_buffers : HttpNumbers → List HttpFieldNumbers → HttpBuffers
http_buffers http fields = record { http = http; fields = fields }
