pub mod Order
pub mod Insertion
