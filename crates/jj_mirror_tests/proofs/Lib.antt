pub mod ReadBack
pub mod ShortTrees
pub mod LoggedFiles
