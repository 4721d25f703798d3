pub mod Batch
pub mod Session
pub mod Turn
