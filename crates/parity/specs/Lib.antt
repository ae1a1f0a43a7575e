pub mod Parity
pub mod LowBit
pub mod Lent
