pub mod Cells
pub mod Accepted
pub mod Meets
pub mod Steps
