mod ContentFailures
mod OnlyCommits
mod RevisionErrors
