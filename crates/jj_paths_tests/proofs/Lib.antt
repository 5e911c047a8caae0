pub mod SetValues
mod EmptiedDirs
mod FirstChildren
mod RelativeWays
