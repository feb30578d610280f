pub mod Lines
pub mod Show
pub mod ShowJson
pub mod ShowText
pub mod ShownFault
pub mod inner
