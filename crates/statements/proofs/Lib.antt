pub mod StatementLaws
pub mod GridLaws
pub mod SameLaws
pub mod MeantLaws
