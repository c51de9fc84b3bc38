pub mod Closing
pub mod Commands
pub mod Fronts
pub mod Heads
pub mod Outcomes
pub mod Parts
pub mod Room
pub mod Stands
