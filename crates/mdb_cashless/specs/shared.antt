pub mod ApprovalCodes
pub mod ApprovalWays
pub mod ByProfileCodes
pub mod ByProfileWays
pub mod ReaderCodes
pub mod ReaderWays
pub mod SaleViews
