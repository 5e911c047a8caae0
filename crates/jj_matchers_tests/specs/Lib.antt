pub mod TopLevel
