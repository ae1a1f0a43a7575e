-- the answer for a node, from its substituted condition
pub mod Judged
