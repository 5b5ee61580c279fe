pub mod Batches
pub mod Standing
pub mod Openings
pub mod Plans
pub mod Pictures
pub mod Journals
pub mod Examples
