use Rattle.std.proofs.Common.{◌≡◌, drop, map}
use Rattle.std.specs.Prelude.{find}
use Rattle.httparse.specs.Spans.{header_bytes}
use Rattle.warc_payload.specs.Texts.{is_content_type}
use Rattle.warc_payload.proofs.texts.media_type_in.Given as goal

-- none of the fields so far states it
abbrev pub invariant-finding : goal.invariant-finding
invariant-finding l = find is_content_type (map (header_bytes l.text) (drop l.field-index l.fields)) ≡ find is_content_type (map (header_bytes l.text) l.fields)
