pub mod Aside
pub mod Complaint
pub mod Program
