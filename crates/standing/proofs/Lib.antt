pub mod Layouts
pub mod Scans
pub mod Crashes
pub mod Openings
pub mod Journals
pub mod Fronts
pub mod Examples
