pub mod Register
pub mod Mnemonics
pub mod FlagBits
pub mod Modelled
pub mod Promises
