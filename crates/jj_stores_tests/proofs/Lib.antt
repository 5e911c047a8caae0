mod TakenItems
mod IdMaps
mod KeptValues
mod Marking
mod Sweeping
