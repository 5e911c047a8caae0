pub mod Excerpts
