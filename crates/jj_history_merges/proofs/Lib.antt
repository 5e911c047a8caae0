mod Yielded
mod WrittenCommits
