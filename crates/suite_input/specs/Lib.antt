pub mod Readings
pub mod Words
