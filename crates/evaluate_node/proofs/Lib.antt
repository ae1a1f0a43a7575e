pub mod Every
pub mod Laws
pub mod Runs
pub mod Same
pub mod Whole
