pub mod Revisions
pub mod FileContents
