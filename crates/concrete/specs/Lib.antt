pub mod Concrete
pub mod Agreement
