-- The texts of what an archive doesn't give, by which the program reports it: this project's own notion.
use Rattle.std.specs.Prelude.{ℕ, List, codes}
use Rattle.warc_frame.specs.FaultText.{out_fault_text}
use Rattle.warc_replay.specs.declared.fault.ExtractFault.{ExtractFault}
use Rattle.warc_replay.specs.declared.fault.ExtractFault.TheVariants.{NoRecord as NotThere, Out}
use Rattle.warc_replay.specs.declared.fault.TakeFault.{TakeFault}
use Rattle.warc_replay.specs.declared.fault.TakeFault.TheVariants.{NoRecord, Read, Memory}

abbrev pub take_fault_text : TakeFault → List ℕ
take_fault_text NoRecord = codes "E1 NoRecord"
take_fault_text Read = codes "read failed"
take_fault_text Memory = codes "out of memory"

abbrev pub extract_fault_text : ExtractFault → List ℕ
extract_fault_text NotThere = codes "E1 NoRecord"
extract_fault_text (Out fault) = out_fault_text fault
