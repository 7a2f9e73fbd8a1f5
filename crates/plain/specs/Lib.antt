pub mod Answers
pub mod Routes
