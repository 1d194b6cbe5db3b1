-- In reading order: what the stage is given and what it finds, and what a listing of shares answers.
pub mod Stage
