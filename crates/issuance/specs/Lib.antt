pub mod Issuance
pub mod Lines
