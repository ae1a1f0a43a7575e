pub mod Laws
pub mod Independence
pub mod Steps
