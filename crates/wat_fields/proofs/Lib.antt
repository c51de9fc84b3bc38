pub mod ElementRows
pub mod FunctionRows
pub mod Heads
pub mod Lists
pub mod RefFuncs
pub mod SegmentRows
pub mod Spans
