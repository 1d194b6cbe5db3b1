-- In reading order: the candidate of a message and the list of all that are near the shares, the listing call by the book, and two theorems on what a listing is.
pub mod Listing
pub mod Calls
pub mod Theorems
