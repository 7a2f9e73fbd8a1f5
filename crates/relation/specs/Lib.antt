pub mod Meaning
pub mod Comparing
pub mod Sets
pub mod Composition
pub mod Answers
pub mod Packed
