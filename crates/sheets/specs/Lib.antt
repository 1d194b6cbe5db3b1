pub mod Sheet
pub mod Reading
pub mod Named
