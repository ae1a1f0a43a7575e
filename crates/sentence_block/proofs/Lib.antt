-- the causes of the flags' values, from instruction to instruction
pub mod Traced
-- inc, dec and neg declare their flags
pub mod Declared
-- the sentence at a block's end
pub mod Sentences
