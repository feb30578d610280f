pub mod Grammar
pub mod Leads
pub mod RulePlaces
pub mod Step
