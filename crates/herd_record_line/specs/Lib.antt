pub mod RecordLine
