pub mod CrashLemmas
pub mod WriteErrorLemmas
