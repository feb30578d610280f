pub mod Alone
pub mod Cuts
pub mod Ends
pub mod MidSession
pub mod Middle
pub mod Told
pub mod inner
