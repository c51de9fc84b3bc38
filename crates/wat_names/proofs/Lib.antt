pub mod Exact
pub mod Flat
pub mod Numbered
pub mod Returned
pub mod Viewed
