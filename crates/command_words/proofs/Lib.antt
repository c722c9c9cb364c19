pub mod Read
pub mod Refused
pub mod Simple
pub mod TextRows
pub mod Values
