-- The text of a reason, as the program prints it: this project's own notion.
use Rattle.std.specs.Prelude.{ℕ, List, codes}
use Rattle.warc_index.specs.declared.unfound.Unfound.{Unfound}
use Rattle.warc_index.specs.declared.unfound.Unfound.TheVariants.{NoCapture, NotYet, UnknownProfile, NoReference, Unresolved, Loop}

-- its number and name
abbrev pub unfound_text : Unfound → List ℕ
unfound_text NoCapture = codes "P1 NoCapture"
unfound_text NotYet = codes "P2 NotYet"
unfound_text UnknownProfile = codes "P3 UnknownProfile"
unfound_text NoReference = codes "P4 NoReference"
unfound_text Unresolved = codes "P5 Unresolved"
unfound_text Loop = codes "P6 Loop"
