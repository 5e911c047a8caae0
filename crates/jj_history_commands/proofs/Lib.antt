mod Selected
mod KnownObjects
mod Differences
