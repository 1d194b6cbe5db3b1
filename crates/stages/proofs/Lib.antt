pub mod Coefficients
pub mod Syndrome
pub mod Euclid
pub mod Words
pub mod Basis
