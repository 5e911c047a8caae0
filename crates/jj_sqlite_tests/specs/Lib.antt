pub mod SavedFiles
