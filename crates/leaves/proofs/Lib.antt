-- In reading order: the order of pairs, Horner's rule, normalisation, what a leaf comes to, and that this is the only root with the leaf's digits.
pub mod Horner
pub mod Scaling
pub mod Rational
pub mod Unique
