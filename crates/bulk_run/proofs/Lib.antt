pub mod Printing
pub mod InTheEnd
