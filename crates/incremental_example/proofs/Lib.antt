mod Still
mod Facts
mod Packages
mod Saving
mod First
mod Second
mod Meeting
