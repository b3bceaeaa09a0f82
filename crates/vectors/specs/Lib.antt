pub mod Count
pub mod Text
pub mod Hex
pub mod Line
pub mod Vector
