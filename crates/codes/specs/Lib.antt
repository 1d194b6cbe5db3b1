pub mod Valid
pub mod First
pub mod Settings
pub mod Opening
pub mod Exact
pub mod Codewords
pub mod Worked
