pub mod Gone
pub mod PlaceBytes
pub mod Reading
