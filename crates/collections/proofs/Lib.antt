pub mod Booked
pub mod Fairness
