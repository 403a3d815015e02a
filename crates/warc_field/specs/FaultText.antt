-- The texts of faults, as a program prints them: this project's own.
use Rattle.std.specs.Prelude.{List, ℕ, ◌++◌, codes, decimal}
use Rattle.warc_field.specs.declared.text.TextFault.{TextFault}
use Rattle.warc_field.specs.declared.text.TextFault.TheVariants.{BadText, Memory as OutOfMemory}
use Rattle.warc_field.specs.declared.area.AreaFault.{AreaFault}
use Rattle.warc_field.specs.declared.area.AreaFault.TheVariants.{Line, Memory}

abbrev pub text_fault_text : TextFault → List ℕ
text_fault_text BadText = codes "bad text"
text_fault_text OutOfMemory = codes "out of memory"

abbrev pub area_fault_text : AreaFault → List ℕ
area_fault_text (Line offset) = codes "no field at " ++ decimal offset
area_fault_text Memory = codes "out of memory"
