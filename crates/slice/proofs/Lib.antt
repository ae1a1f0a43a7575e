-- the loop that copies
pub mod Copied
