pub mod Tested
pub mod Rank
pub mod Order
pub mod Relations
pub mod SetLaws
pub mod LowestLaws
pub mod UnionLaws
pub mod ExchangeLaws
pub mod TableLaws
pub mod Laws
pub mod AnswerLaws
pub mod Edges
mod PackedLaws
pub mod AnyLaws
