pub mod Forms
pub mod Admissions
pub mod Starts
pub mod Replies
pub mod Fits
pub mod Runs
pub mod LastWords
pub mod Random
