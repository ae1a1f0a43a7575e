-- two parts of a buffer compared
pub mod Parts
-- what cmc adds, put into a buffer
pub mod Turns
-- a sentence by two parts of a buffer
pub mod Sentences
