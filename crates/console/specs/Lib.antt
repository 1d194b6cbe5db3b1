-- In reading order: the header of an input, the lines that are printed, what is printed of an input, the same by the replies to two calls, and whose fault refuses one.
pub mod Headers
pub mod Lines
pub mod Output
pub mod Replies
pub mod Reports
