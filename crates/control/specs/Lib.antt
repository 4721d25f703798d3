pub mod Button
pub mod ModeTable
pub mod Modes
pub mod Names
pub mod Plate
pub mod PlateRules
pub mod State
pub mod Transition
