-- In reading order: the order of candidates, what a candidate tells, and what is asked of the numbers that pairs are sifted by.
pub mod Order
pub mod Telling
pub mod Sifting
pub mod Orders
