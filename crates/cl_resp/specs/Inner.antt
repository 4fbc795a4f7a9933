-- What no public clause cites.
pub mod Rising
pub mod Phased
pub mod Searching
pub mod Releases
pub mod Counted
pub mod Worst
