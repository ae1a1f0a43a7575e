-- texts that are not empty
pub mod Texts
-- what an instruction does to flags and texts
pub mod Changes
-- what is told, without its text
pub mod Decided
-- the sentence from the texts of two causes
pub mod Tellings
