-- In reading order: pairs and their order, forms that can be read, what makes a pair normal, and what a leaf comes to.
pub mod Order
pub mod Formed
pub mod Normalised
pub mod Reached
pub mod Ordering
