-- `Search`: what a search for a larger pairing leaves behind.
pub mod Search
