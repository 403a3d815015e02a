-- An archive that is written in a form opens as its records in that form, and answers as they do.
use Rattle.std.proofs.Common.{◌≡◌, ◌↔◌, ℕ, List, [], ◌∷◌, ◌++◌, map, refl, sym, ◌∙◌, ap, subst, Option, Result, Ok, Err}
use Rattle.warc_value.specs.Dates.{Instant}
use Rattle.warc_frame.specs.Record.{Record}
use Rattle.warc_frame.specs.Spelling.{SpellsAll, canonical}
use Rattle.warc_write.specs.Conversion.{ConvertedStaysGood, converted}
use Rattle.warc_write.specs.Rendering.{RenderedOpensAsSame, canonical_texts}
use Rattle.warc_answer.specs.Answers.{Given, IsAnswer}
use Rattle.warc_answer.specs.Replays.{IsReplay}
use Rattle.warc_answer.specs.declared.answer.Answer.{Answer}
use Rattle.warc_answer.specs.declared.answer.Reason.{Reason as Why}
use Rattle.warc_answer.specs.declared.answer.ReplayFault.{ReplayFault}
use Rattle.warc_answer.specs.declared.answer.ReplayFault.TheVariants.{Reason, Out}
use Rattle.warc_reading.specs.Archive.{AreGood, contents}
use Rattle.warc_rewrite.specs.Forms.{record_as, texts_as}
use Rattle.warc.specs.Laws.{ConversionKeepsAnswers, MigrationKeepsAnswers, MigrationKeepsReplays, WrittenOpensAsSame, WrittenSpells}
use Rattle.warc_rewrite.specs.declared.forms.Form.{Form}
use Rattle.warc_rewrite.specs.declared.forms.Form.TheVariants.{Canonical, Converted}
use Rattle.warc_reading.proofs.StreamLemmas.{spells_all}

-- what is written in a form is what is rendered of the records in that form
texts_are : (form : Form) (records : List Record) → canonical_texts (map (record_as form) records) ≡ texts_as form records
texts_are form [] = refl
texts_are Canonical (r ∷ rs) = ap (λ l. canonical r ++ l) (texts_are Canonical rs)
texts_are Converted (r ∷ rs) = ap (λ l. canonical (converted r) ++ l) (texts_are Converted rs)

in_form : ConvertedStaysGood → (form : Form) (records : List Record) → AreGood records → AreGood (map (record_as form) records)
in_form stays form [] good = good
in_form stays Canonical (r ∷ rs) good = (good.0, in_form stays Canonical rs good.1)
in_form stays Converted (r ∷ rs) good = (stays r good.0, in_form stays Converted rs good.1)

pub written_spells : RenderedOpensAsSame → ConvertedStaysGood → WrittenSpells
written_spells opens stays form records good =
    let others = map (record_as form) records in
    let all = in_form stays form records good in
    record { spelled = subst (SpellsAll others) (texts_are form records) ((opens others others all).1 refl); good = all }

pub written_opens_as_same : RenderedOpensAsSame → ConvertedStaysGood → WrittenOpensAsSame
written_opens_as_same opens stays form records good rows is =
    let others = map (record_as form) records in
    let spelled = spells_all 0 is.are.records (texts_as form records) is.are.spelled in
    (opens others (contents is.are.records) (in_form stays form records good)).0
    (subst (SpellsAll (contents is.are.records)) (sym (texts_are form records)) spelled)

-- the records in the form of WARC 1.1 are the converted ones
are_converted : (records : List Record) → map (record_as Converted) records ≡ map converted records
are_converted [] = refl
are_converted (r ∷ rs) = ap (λ (l : List Record). converted r ∷ l) (are_converted rs)

pub migration_keeps_answers : WrittenOpensAsSame → ConversionKeepsAnswers → MigrationKeepsAnswers
migration_keeps_answers same keeps records good rows is uri moment outcome =
    let P : List Record → Type 0 = λ rs. IsAnswer rs uri moment outcome ↔ IsAnswer records uri moment outcome in
    subst P (sym (same Converted records good rows is ∙ are_converted records)) (keeps records uri moment outcome good)

-- replays of lists that have the same answers are the same
abbrev Agree : List Record → List Record → Type 0
Agree one other = (uri : List ℕ) (moment : Instant) (outcome : Result Given Why) → IsAnswer one uri moment outcome → IsAnswer other uri moment outcome

replays : (one other : List Record) → Agree one other → (uri : List ℕ) (moment : Instant) (answer : Result Answer ReplayFault) (old new : Option (List ℕ))
    → IsReplay one uri moment answer old new → IsReplay other uri moment answer old new
replays one other agree uri moment (Ok answer) old new is = (is.0, agree uri moment _ is.1, is.2)
replays one other agree uri moment (Err (Reason why)) old new is = (agree uri moment (Err why) is.0, is.1)
replays one other agree uri moment (Err (Out e)) old new is = (is.0, agree uri moment is.0 is.1, is.2)

pub migration_keeps_replays : MigrationKeepsAnswers → MigrationKeepsReplays
migration_keeps_replays keeps records good rows is uri moment answer old new =
    let there : Agree (contents is.are.records) records = λ u m o. (keeps records good rows is u m o).0 in
    let back : Agree records (contents is.are.records) = λ u m o. (keeps records good rows is u m o).1 in (
      replays (contents is.are.records) records there uri moment answer old new,
      replays records (contents is.are.records) back uri moment answer old new,
    )
