pub mod FirstBytes
