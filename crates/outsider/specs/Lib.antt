pub mod FloatArm
pub mod Runs
pub mod SoftStarter
