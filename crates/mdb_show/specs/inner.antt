pub mod JsonLines
pub mod RowLines
