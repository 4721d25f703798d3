pub mod Causes
pub mod Cell
pub mod Echo
pub mod EchoRange
pub mod EchoWord
pub mod Height
pub mod Model
pub mod Pair
