pub mod Calls
pub mod Edges
pub mod History
pub mod Meanings
pub mod Promises
pub mod Witnesses
pub mod Words
