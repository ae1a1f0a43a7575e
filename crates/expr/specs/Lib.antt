pub mod Codes
pub mod Tree
pub mod Statement
pub mod Scan
pub mod Types
pub mod Root
pub mod Admission
pub mod Examples
