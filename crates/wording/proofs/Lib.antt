-- names in tables
pub mod Names
-- how long names are
pub mod Lengths
-- values as text
pub mod Numerals
