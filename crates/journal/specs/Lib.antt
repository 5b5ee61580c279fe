pub mod Drafts
pub mod Readings
pub mod Appends
pub mod Lives
