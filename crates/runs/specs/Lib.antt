pub mod Faults
pub mod Kinds
pub mod Law
pub mod History
