pub mod Reading
pub mod Trees
pub mod Apart
pub mod Jobs
pub mod Making
pub mod Built
pub mod Alone
pub mod Distfiles
