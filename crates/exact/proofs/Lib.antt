-- the values of exact sides in evaluations, which other proofs cite
pub mod ExactValue
-- the relations on exact sides
pub mod Sides
-- laws of the code's steps
pub mod Steps
