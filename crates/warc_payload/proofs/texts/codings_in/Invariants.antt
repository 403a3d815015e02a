use Rattle.std.proofs.Common.{◌≡◌, take}
use Rattle.std.specs.List.{flat_map}
use Rattle.httparse.specs.Spans.{header_bytes}
use Rattle.warc_payload.specs.Texts.{coding_text_if}
use Rattle.warc_payload.proofs.texts.codings_in.Given as goal

-- of the fields so far
abbrev pub invariant-adding : goal.invariant-adding
invariant-adding g l = l.codings.items ≡ flat_map (λ s. coding_text_if (header_bytes l.text s)) (take l.field-index l.fields)
