pub mod Asked
pub mod Answer
pub mod Desk
