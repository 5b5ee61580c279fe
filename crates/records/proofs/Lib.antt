pub mod Decoding
pub mod Bytes
pub mod Edits
pub mod Laws
pub mod Examples
