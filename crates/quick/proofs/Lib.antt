pub mod RuleLaws
pub mod ShowLaws
pub mod KindLaws
pub mod PairLaws
