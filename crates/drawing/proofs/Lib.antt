pub mod Arguments
pub mod Turns
