pub mod DecodeErrors
