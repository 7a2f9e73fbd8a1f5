pub mod RuleLaws
pub mod TryRight
pub mod LookLaws
pub mod SearchRight
pub mod OnlyLaws
pub mod FindLaws
