pub mod Cells
pub mod Cores
pub mod Echoes
pub mod Kept
pub mod Missing
pub mod Serving
pub mod Steps
