-- entries that lines were written to
pub mod Entries
-- the text of the listing's answer
pub mod Printed
-- the bytes of input and output
pub mod Streams
