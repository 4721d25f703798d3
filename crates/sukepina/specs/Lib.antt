pub mod Boundary
pub mod Calls
pub mod Cell
pub mod Core
pub mod Echo
pub mod Maybe
pub mod Possible
