pub mod Sheet
pub mod Answers
pub mod Parts
pub mod Places
pub mod Steps
