-- in reading order
pub mod GlobSyntax
pub mod GlobMeaning
pub mod GlobParsing
pub mod GlobGrammar
pub mod GlobEscape
pub mod GlobPrefix
pub mod GlobBacktracking
pub mod GlobNfa
pub mod GlobCompilation
pub mod GlobTrie
pub mod GlobSuffix
pub mod GlobTables
pub mod GlobInvariant
