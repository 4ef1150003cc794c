pub mod Ascii
pub mod DNSClass
pub mod Digits
pub mod ProtoError
pub mod RecordType
pub mod SerialNumber
