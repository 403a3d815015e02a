use Rattle.std.proofs.Common.{◌≡◌, ℕ, ◌≤◌, ◌||◌, Bool, List, [], ◌∷◌, length, take, map, refl, ap, sym, ◌∙◌, arith}
use Rattle.std.specs.List.{list_any}
use Rattle.std.proofs.lemmas.List.{length-map, length-take}
use Rattle.httparse.specs.Grammar.{Field, ResponseHead, print_response}
use Rattle.httparse.specs.Spans.{IsResponseOf, AreFieldsAt, header_bytes, name_and_value}
use Rattle.httparse.specs.declared.spans.HeaderSpan.{HeaderSpan}
use Rattle.httparse.specs.declared.spans.ResponseSpans.{ResponseSpans}
use Rattle.warc_payload.specs.declared.HeadInfo.{HeadInfo}
use Rattle.warc_payload.specs.Coding.{names_coding, names_transfer_coding}
use Rattle.warc_payload.specs.Head.{IsInfoOf}
use Rattle.warc_payload.specs.Texts.{AreHeadTexts, codings_in, media_type_in}

-- a test of some item, through a map
pub any_of_map : {X Y : Type 0} (f : X → Y) (p : Y → Bool) (xs : List X) → list_any p (map f xs) ≡ list_any (λ x. p (f x)) xs
any_of_map f p [] = refl
any_of_map f p (x ∷ xs) = ap (λ b. p (f x) || b) (any_of_map f p xs)

-- the fields that spans cover are no more than the room for spans
pub fields_fit : (block : List ℕ) (headers : List HeaderSpan) (count : ℕ) (fields : List Field)
    → AreFieldsAt block headers count fields → length headers ≡ 256 → length fields ≤ 256
fields_fit block headers count fields same room =
    let long : length (map (header_bytes block) (take count headers)) ≡ length (map name_and_value fields) = ap length same in
    omega (arith, simp (length-map, length-take) at long, room)

-- a test of the spans' bytes is one of the fields
pub coded_by_spans : (names : List ℕ × List ℕ → Bool) (block : List ℕ) (headers : List HeaderSpan) (count : ℕ) (fields : List Field)
    → AreFieldsAt block headers count fields
    → list_any (λ s. names (header_bytes block s)) (take count headers) ≡ list_any (λ f. names (name_and_value f)) fields
coded_by_spans names block headers count fields same =
    sym (any_of_map (header_bytes block) names (take count headers))
    ∙ ap (list_any names) same
    ∙ any_of_map name_and_value names fields

-- what is known of the head that the spans cover
pub info_of : (text : List ℕ) (headers : List HeaderSpan) (r : ResponseSpans) (coded transfer : Bool)
    → length headers ≡ 256 → length text ≤ 65536 → r.len ≤ length text → IsResponseOf text headers r
    → coded ≡ list_any (λ s. names_coding (header_bytes text s)) (take r.headers headers)
    → transfer ≡ list_any (λ s. names_transfer_coding (header_bytes text s)) (take r.headers headers)
    → (head : ResponseHead) × (let info : HeadInfo = record { status = r.code; head_len = r.len; coded = coded; transfer_coded = transfer } in IsInfoOf text info head)
info_of text headers r coded transfer room short within found is_coded is_transfer = (
  found.0,
  record {
    front = record {
      reads = found.1.reads;
      size = (let len : r.len ≡ length (print_response found.0) = found.1.len in omega arith);
      lines = fields_fit text headers r.headers found.0.fields found.1.fields room;
    };
    head_len = found.1.len;
    status = found.1.code;
    coded = is_coded ∙ coded_by_spans names_coding text headers r.headers found.0.fields found.1.fields;
    transfer_coded = is_transfer ∙ coded_by_spans names_transfer_coding text headers r.headers found.0.fields found.1.fields;
  },
)

-- the head that the spans cover, with what its fields say
pub stored_of : (text : List ℕ) (headers : List HeaderSpan) (r : ResponseSpans) (coded transfer : Bool) (media codings : List ℕ)
    → length headers ≡ 256 → length text ≤ 65536 → r.len ≤ length text → IsResponseOf text headers r
    → coded ≡ list_any (λ s. names_coding (header_bytes text s)) (take r.headers headers)
    → transfer ≡ list_any (λ s. names_transfer_coding (header_bytes text s)) (take r.headers headers)
    → media ≡ media_type_in (map (header_bytes text) (take r.headers headers))
    → codings ≡ codings_in (map (header_bytes text) (take r.headers headers))
    → (head : ResponseHead) × (let info : HeadInfo = record { status = r.code; head_len = r.len; coded = coded; transfer_coded = transfer } in IsInfoOf text info head) × AreHeadTexts head media codings
unfolding info_of
stored_of text headers r coded transfer media codings room short within found is_coded is_transfer is_media are_codings =
    let info = info_of text headers r coded transfer room short within found is_coded is_transfer in (
      info.0,
      info.1,
      record { media_is = is_media ∙ ap media_type_in found.1.fields; codings_are = are_codings ∙ ap codings_in found.1.fields },
    )
