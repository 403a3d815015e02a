-- What is found of a record whose head is plain, but for what its block and the archive around it show.
use Rattle.std.specs.Prelude.{◌≡◌, ℕ, Bool, true, List, ◌++◌, length, map, take, None, Ok}
use Rattle.warc_field.specs.Area.{Pair}
use Rattle.warc_value.specs.declared.hash.Wanted.{Wanted}
use Rattle.warc_frame.specs.Reading.{any_fields, head_of}
use Rattle.warc_frame.specs.declared.version.Version.{Version}
use Rattle.warc_record.specs.Findings.{SeenFinding, Digest, IdUsed, NoContentType, Profile, BareId, NoOrigin, by_table, findings_of, has_bare_id, has_unknown_profile, lacks_content_type, lacks_origin, once, plain_seen}
use Rattle.warc_record.specs.Heads.{head_fault}
use Rattle.warc_record.specs.Kinds.{is_known}
use Rattle.warc_record.specs.Readings.{digest_wanted, kind_of, reading_of}
use Rattle.warc_record.specs.declared.checks.TableCheck.TheVariants.{Lacks, HasForbidden, Repeats}
use Rattle.warc_quick.specs.declared.plain_findings.PlainFindings.{PlainFindings}

-- the findings that are listed
abbrev pub all_plain : PlainFindings → List SeenFinding
all_plain found = map plain_seen (take found.count found.items)

-- the findings of a record of these fields and a block of this length but N4, N5, N6 and N9: those before N4, and those
-- after N6
abbrev pub before_digest : List Pair → List SeenFinding
before_digest fields =
    by_table Lacks (kind_of fields) fields
    ++ by_table HasForbidden (kind_of fields) fields
    ++ by_table Repeats (kind_of fields) fields

abbrev pub after_used : List Pair → ℕ → List SeenFinding
after_used fields block_len =
    once NoContentType (lacks_content_type (kind_of fields) fields block_len)
    ++ once Profile (has_unknown_profile (reading_of fields) fields)
    ++ once BareId (has_bare_id (reading_of fields))
    ++ once NoOrigin (lacks_origin (reading_of fields) fields)

-- a record of these fields and a block of this length is of one of the eight kinds, and has these findings, with N4 and
-- N6 among them where they hold: N4 if its digest differs, N6 if its id is used
pub record AreFindings (fields : List Pair) (block_len : ℕ) (found : List SeenFinding) : Type 0 where
  pub known : is_known (kind_of fields) ≡ true
  pub before : List SeenFinding
  pub after : List SeenFinding
  pub found_is : found ≡ before ++ after
  pub among : (bad_digest used_id : Bool) → findings_of fields block_len bad_digest used_id
      ≡ before ++ once Digest bad_digest ++ once IdUsed used_id ++ after

-- a text is a whole, good head of a block of this length, which asks for this digest; its record has these findings
pub record IsJudgedHead (text : List ℕ) (block_len : ℕ) (wanted : Wanted) (found : PlainFindings) : Type 0 where
  pub version : Version
  pub fields : List Pair
  pub reads : head_of any_fields text
      ≡ Ok (record { version = version; fields = fields; len = length text; block_len = block_len })
  pub good : head_fault fields ≡ None
  pub wanted_is : digest_wanted fields ≡ wanted
  pub found_are : AreFindings fields block_len (all_plain found)
