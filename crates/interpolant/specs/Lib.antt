pub mod Places
pub mod States
pub mod Problems
