pub mod MemoryStores
pub mod OnlyMatches
