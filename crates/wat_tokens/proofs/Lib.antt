pub mod CountSteps
pub mod Exact
pub mod GroupEnds
pub mod Joined
pub mod Steps
pub mod Texts
