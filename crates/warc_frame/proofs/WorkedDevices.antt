-- Worked values of the definitions.
use Rattle.std.proofs.Common.{◌≡◌, refl}
use Rattle.std.specs.Prelude.{[], ◌∷◌, codes, length}
use Rattle.std.specs.Fmt.{digits}
use Rattle.warc_frame.specs.declared.version.Version.TheVariants.{V1_0, V1_1}
use Rattle.warc_frame.specs.declared.fault.Mandatory.TheVariants.{ContentLength, Date}
use Rattle.warc_frame.specs.declared.fault.FaultKind.TheVariants.{Missing, Repeated, End, Truncated}
use Rattle.warc_frame.specs.FaultText.{fault_text}
use Rattle.warc_frame.specs.VersionLine.{version_line}

-- the version line has 10 bytes
version-line : version_line V1_1 ≡ 87 ∷ 65 ∷ 82 ∷ 67 ∷ 47 ∷ 49 ∷ 46 ∷ 49 ∷ 13 ∷ 10 ∷ []
version-line = refl

version-line-length : length (version_line V1_0) ≡ 10
version-line-length = refl

-- the texts of faults
truncated : fault_text (record { kind = Truncated; offset = 17 }) ≡ codes "F11 Truncated at 17"
unfolding digits
truncated = refl

no-date : fault_text (record { kind = Missing Date; offset = 0 }) ≡ codes "F4 Missing WARC-Date at 0"
unfolding digits
no-date = refl

two-lengths : fault_text (record { kind = Repeated ContentLength; offset = 0 }) ≡ codes "F5 Repeated Content-Length at 0"
unfolding digits
two-lengths = refl

end : fault_text (record { kind = End; offset = 274 }) ≡ codes "F10 End at 274"
unfolding digits
end = refl
