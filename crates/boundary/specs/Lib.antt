pub mod Tables
pub mod Changes
pub mod Operators
pub mod Refusals
