pub mod NumberLaws
pub mod AnsweredLaws
pub mod ResultLaws
