-- The version line of a record (ISO 28500:2017, which is WARC 1.1: section 4, file and record model).
use Rattle.std.specs.Prelude.{ℕ, List, ◌++◌, codes}
use Rattle.warc_frame.specs.declared.version.Version.{Version}
use Rattle.warc_frame.specs.declared.version.Version.TheVariants.{V1_0, V1_1}

-- a version, as its line names it
abbrev pub version_name : Version → List ℕ
version_name V1_0 = codes "WARC/1.0"
version_name V1_1 = codes "WARC/1.1"

-- the 10 bytes of the line, with its CRLF
abbrev pub version_line : Version → List ℕ
version_line v = version_name v ++ codes "\r\n"
