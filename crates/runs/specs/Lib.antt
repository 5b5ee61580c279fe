pub mod Ledgers
pub mod Steps
pub mod Laws
