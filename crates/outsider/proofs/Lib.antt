pub mod LowWater
pub mod Runs
