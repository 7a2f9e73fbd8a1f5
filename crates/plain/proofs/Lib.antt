pub mod RouteLaws
pub mod PlainRight
