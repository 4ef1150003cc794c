pub mod Cert
pub mod Fields
pub mod Print
pub mod Sshfp
pub mod TextLaws
pub mod Texts
pub mod Tlsa
