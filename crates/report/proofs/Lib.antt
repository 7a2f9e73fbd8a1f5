pub mod AddsLaws
pub mod DecimalLaws
pub mod EventLaws
pub mod FoundLaws
pub mod FewLaws
pub mod ReportRight
pub mod Examples
