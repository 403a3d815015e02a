pub mod Indexed
pub mod RecordBytes
