pub mod Coefficients
pub mod Syndrome
pub mod Euclid
pub mod Basis
pub mod Words
pub mod Readings
