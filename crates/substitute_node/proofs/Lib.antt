-- statements passed one after the other
pub mod Passing
