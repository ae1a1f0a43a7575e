-- how many digits there are
pub mod Lengths
-- what number they make
pub mod Values
-- text put into a buffer
pub mod Puts
