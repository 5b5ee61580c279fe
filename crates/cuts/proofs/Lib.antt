pub mod Maps
pub mod Views
