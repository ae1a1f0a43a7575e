-- laws of the definitions, which other proofs cite
pub mod Sections
pub mod Blocks
pub mod Accepted
pub mod Refusals
pub mod Fronts
pub mod Rising
pub mod Again
pub mod ByNumber
pub mod InCode
pub mod Found
