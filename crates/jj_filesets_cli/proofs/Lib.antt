mod NextWord
mod PrintedLists
