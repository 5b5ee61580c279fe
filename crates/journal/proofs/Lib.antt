pub mod Applying
pub mod Reading
pub mod Writing
pub mod Lives
