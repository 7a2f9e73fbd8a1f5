pub mod WaitingLaws
pub mod StepsLaws
