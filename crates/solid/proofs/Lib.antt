pub mod Searches
pub mod Changes
pub mod Runs
pub mod Edits
pub mod Lists
