pub mod Placing
pub mod Checking
pub mod Settling
pub mod Steps
