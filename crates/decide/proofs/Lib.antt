-- where the low bits of two sides always differ, parity decides
pub mod Complete
-- values and reasons are those of the relation
pub mod Reasons
-- the verdict is right of every evaluation
pub mod Sound
-- laws of the code's steps
pub mod Judged
