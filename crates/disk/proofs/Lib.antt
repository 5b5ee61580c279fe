pub mod Rules
pub mod Losses
pub mod Chains
pub mod Maps
pub mod Behind
