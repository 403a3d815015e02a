-- The text of a fault, as the program prints it: this project's own notion, but for the names of fields.
use Rattle.std.specs.Prelude.{ℕ, List, ◌++◌, codes, decimal}
use Rattle.warc_frame.specs.declared.fault.Mandatory.{Mandatory}
use Rattle.warc_frame.specs.declared.fault.Mandatory.TheVariants.{ContentLength, «Type», RecordId, Date as DateField}
use Rattle.warc_frame.specs.declared.fault.FaultKind.{FaultKind}
use Rattle.warc_frame.specs.declared.fault.FaultKind.TheVariants.{Version, HeadTooLong, Field, Missing, Repeated, Length, BadType, Id, Date, End, Truncated, TooLong, Read, Memory}
use Rattle.warc_frame.specs.declared.fault.Fault.{Fault}
use Rattle.warc_frame.specs.declared.fault.OutFault.{OutFault}
use Rattle.warc_frame.specs.declared.fault.OutFault.TheVariants.{Read as ReadFailed, Write as WriteFailed, Memory as OutOfMemory}
use Rattle.warc_frame.specs.declared.send.SendFault.{SendFault}
use Rattle.warc_frame.specs.Names.{content_length, warc_type, warc_record_id, warc_date}

-- the name of a field, as the standard writes it (ISO 28500:2017, which is WARC 1.1: section 5, named fields)
abbrev pub name_of : Mandatory → List ℕ
name_of ContentLength = content_length
name_of «Type» = warc_type
name_of RecordId = warc_record_id
name_of DateField = warc_date

-- a fault's number and name, and the field that it is about
abbrev pub kind_text : FaultKind → List ℕ
kind_text Version = codes "F1 Version"
kind_text HeadTooLong = codes "F2 HeadTooLong"
kind_text Field = codes "F3 Field"
kind_text (Missing field) = codes "F4 Missing " ++ name_of field
kind_text (Repeated field) = codes "F5 Repeated " ++ name_of field
kind_text Length = codes "F6 Length"
kind_text BadType = codes "F7 BadType"
kind_text Id = codes "F8 Id"
kind_text Date = codes "F9 Date"
kind_text End = codes "F10 End"
kind_text Truncated = codes "F11 Truncated"
kind_text TooLong = codes "F12 TooLong"
kind_text Read = codes "F13 Read"
kind_text Memory = codes "F14 Memory"

-- a fault, with its offset in decimal digits
abbrev pub fault_text : Fault → List ℕ
fault_text fault = kind_text fault.kind ++ codes " at " ++ decimal fault.offset

-- why an output ends early, and after how many bytes
abbrev pub out_fault_text : OutFault → List ℕ
out_fault_text (ReadFailed sent) = codes "read failed after " ++ decimal sent
out_fault_text (WriteFailed sent) = codes "write failed after " ++ decimal sent
out_fault_text (OutOfMemory sent) = codes "out of memory after " ++ decimal sent

-- a failed write, after how many bytes
abbrev pub send_fault_text : SendFault → List ℕ
send_fault_text fault = codes "write failed after " ++ decimal fault.sent
