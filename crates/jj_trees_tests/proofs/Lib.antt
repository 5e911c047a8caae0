mod ConflictTerms
mod WrittenOutcomes
mod MemoryFailures
mod FirstCommits
mod RecordedRuns
