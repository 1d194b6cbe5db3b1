pub mod Messages
pub mod Worked
