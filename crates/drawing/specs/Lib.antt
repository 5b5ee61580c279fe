pub mod Commands
pub mod Drawing
