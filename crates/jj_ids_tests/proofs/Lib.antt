mod Matches
mod Sums
