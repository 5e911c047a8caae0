pub mod ReadFailures
