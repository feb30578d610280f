pub mod BillCodes
pub mod BillWays
pub mod ChangerCodes
pub mod ChangerWays
