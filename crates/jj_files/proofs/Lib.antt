pub mod PathJoiningLemmas
pub mod ErrorContexts
pub mod Removals
pub mod NormalForms
pub mod CommonPrefixes
