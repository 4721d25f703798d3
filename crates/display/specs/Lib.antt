pub mod Figure
pub mod Line
pub mod Pair
pub mod Panel
pub mod Warnings
