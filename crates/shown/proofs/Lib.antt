pub mod Worked
pub mod Examples
pub mod ClosingsAgree
pub mod Edges
