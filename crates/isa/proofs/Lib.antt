pub mod Names
pub mod First
