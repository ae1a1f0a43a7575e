-- runs of a node, by its substituted condition, which is admitted where the node is
-- the held table in borrowed words
-- the pass that substitutes, and what it leaves in the borrowed words
-- types up to pointer and unsigned 64, which no operator tells apart
-- what substitution does to type and value
-- where nothing is held
pub mod Admitted
pub mod Alike
pub mod Backward
pub mod Entries
pub mod Kept
pub mod Noted
pub mod Nothing
pub mod Runs
