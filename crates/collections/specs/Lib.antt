pub mod Book
pub mod Standing
pub mod Single
pub mod Issuing
