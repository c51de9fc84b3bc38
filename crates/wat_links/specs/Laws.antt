-- Laws of the definitions: lemmas that definitions or other crates rest on.
pub mod Cutting
pub mod DylinkEntries
pub mod Entries
pub mod Export
pub mod Flags
pub mod Forms
pub mod Import
pub mod Named
pub mod NoImport
pub mod Producers
pub mod Subsections
