-- the last letters of causes' texts
pub mod Causes
