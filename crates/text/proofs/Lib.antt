pub mod PartLaws
pub mod TextLaws
pub mod Edges
