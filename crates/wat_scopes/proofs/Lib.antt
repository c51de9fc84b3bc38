pub mod FaultsAdded
pub mod Kept
pub mod NoFaults
pub mod Sets
