mod Derived
mod Parsed
mod OneError
mod Trees
mod Unique
pub mod Selecting
mod Strings
mod Evaluated
mod Lexed
mod Compiled
mod PatternTexts
mod BelowMatches
mod Listed
mod Printed
