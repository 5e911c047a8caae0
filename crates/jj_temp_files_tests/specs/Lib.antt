pub mod Objects
pub mod Disk
pub mod DiskLaws
pub mod SameFiles
pub mod Links
