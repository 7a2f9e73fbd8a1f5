pub mod CellLaws
pub mod AcceptedLaws
pub mod UnlikeLaws
pub mod Edges
