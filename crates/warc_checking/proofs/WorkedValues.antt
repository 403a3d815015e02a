-- What `check` writes, computed.
use Rattle.std.proofs.Common.{◌≡◌, [], codes, refl}
use Rattle.std.specs.Fmt.{digits}
use Rattle.warc_record.specs.Findings.{Forbidden, IdUsed}
use Rattle.warc_checking.specs.Checking.{about_record, check_text, line_text}

-- the lines of findings
no_records_text : check_text [] ≡ codes "- N12\n"
unfolding check_text line_text digits
no_records_text = refl

forbidden_text : line_text (about_record 0 (Forbidden (codes "WARC-Target-URI"))) ≡ codes "0 N2 WARC-Target-URI\n"
unfolding line_text digits
forbidden_text = refl

used_text : line_text (about_record 12 IdUsed) ≡ codes "12 N6\n"
unfolding line_text digits
used_text = refl
