pub mod Rules
pub mod Histories
pub mod RingLaws
pub mod Examples
pub mod Broken
pub mod Consequences
