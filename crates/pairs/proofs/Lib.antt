-- In reading order: the rows of a basis as those of the theory, the pairs that stand for roots, the room, and the right pairs.
pub mod Rows
pub mod Standing
pub mod Rooms
pub mod Cases
pub mod Whole
