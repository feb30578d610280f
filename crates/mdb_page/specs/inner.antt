pub mod Listing
pub mod News
pub mod Rising
pub mod Surveying
