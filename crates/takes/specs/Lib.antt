pub mod Waiting
pub mod Steps
