pub mod Json
pub mod Reports
