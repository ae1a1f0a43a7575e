-- what leaves the flags as they are
pub mod Kept
-- flags that inc, dec and neg declare
pub mod Declared
