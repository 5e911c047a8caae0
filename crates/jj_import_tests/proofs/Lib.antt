pub mod StoredStreams
