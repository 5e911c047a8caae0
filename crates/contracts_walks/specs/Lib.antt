pub mod Adjacency
