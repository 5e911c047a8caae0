pub mod WriteErrors
mod ExecutableBits
