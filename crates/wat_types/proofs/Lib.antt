pub mod Begun
pub mod Definitions
pub mod ExponentFound
pub mod FunctionFront
pub mod FunctionGroups
pub mod GroupsAdded
pub mod NoGroup
pub mod Rows
