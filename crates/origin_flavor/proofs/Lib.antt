pub mod Pieces
pub mod Listed
pub mod Answered
pub mod Meant
pub mod Numbered
pub mod Noticed
pub mod NoticesView
pub mod Commanded
