pub mod CountLaws
pub mod GaplessLaws
pub mod EarlierLaws
pub mod PlacingLaws
pub mod SettleLaws
pub mod CheckLaws
mod FillLaws
mod StepLaws
mod EntryLaws
pub mod SignedLaws
