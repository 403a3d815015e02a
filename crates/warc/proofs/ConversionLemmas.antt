-- Converting good records changes no answer.
use Rattle.std.proofs.Common.{◌≡◌, List, [], ◌∷◌, map, refl, sym, ◌∙◌, ap, subst}
use Rattle.warc_frame.specs.Record.{Record}
use Rattle.warc_record.specs.Good.{IsGood}
use Rattle.warc_segment.specs.Joined.{ReadRecord}
use Rattle.warc_write.specs.Conversion.{ConvertedSaysTheSame, converted}
use Rattle.warc_write.specs.Rendering.{AllGood}
use Rattle.warc_answer.specs.Answers.{IsAnswerOn, IsGivenOn, index_of, path_for, path_of}
use Rattle.warc.specs.Laws.{ConversionKeepsAnswers}
use Rattle.warc_answer.specs.Payloads.{read_record}

block_stays : (r : Record) → (converted r).block ≡ r.block
unfolding converted
block_stays r = refl

-- a converted record is read as the record
record_stays : ConvertedSaysTheSame → (r : Record) → IsGood r → read_record (converted r) ≡ read_record r
record_stays says r good = λ i. record { head = says r good.framed.fields i; block = block_stays r i }

records_stay : ConvertedSaysTheSame → (records : List Record) → AllGood records
    → map read_record (map converted records) ≡ map read_record records
records_stay says [] good = refl
records_stay says (r ∷ rs) good =
    ap (λ (x : ReadRecord). x ∷ map read_record (map converted rs)) (record_stays says r good.0)
    ∙ ap (λ (xs : List ReadRecord). read_record r ∷ xs) (records_stay says rs good.1)

pub conversion_keeps_answers : ConvertedSaysTheSame → ConversionKeepsAnswers
unfolding IsAnswerOn path_for
conversion_keeps_answers says records uri moment outcome good =
    let same = records_stay says records good in
    let P : List ReadRecord → Type 0 = λ all. IsGivenOn all (path_of (index_of all) uri moment) outcome in
    ((λ is. subst P same is), (λ is. subst P (sym same) is))
