-- laws of the definitions, which other proofs cite
pub mod Numbers
pub mod Table
pub mod Ordered
-- the two tables of what is entered
pub mod LowBits
pub mod Entries
-- polynomials at a choice of atom bits
pub mod Choices
-- low bits in evaluations
pub mod TypeLaws
pub mod Evaluation
-- laws of the code's steps
pub mod Steps
pub mod Rooms
pub mod Calls
pub mod Limits
