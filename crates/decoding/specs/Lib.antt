-- In reading order: codes and words, the key equation, the interpolant, rational roots, settings, the sift, the walk, and the theorems.
pub mod Code
pub mod Words
pub mod KeyEquation
pub mod Multiplicity
pub mod Koetter
pub mod Rational
pub mod Setting
pub mod Sift
pub mod Pairs
pub mod Walk
pub mod Theorems
