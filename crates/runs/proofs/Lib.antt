pub mod Stepping
pub mod Cuts
pub mod Promises
pub mod Agreements
