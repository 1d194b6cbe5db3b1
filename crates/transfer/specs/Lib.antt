pub mod Writing
pub mod Loading
