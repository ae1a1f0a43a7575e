-- lines
pub mod Lines
