pub mod Front
pub mod Pairs
