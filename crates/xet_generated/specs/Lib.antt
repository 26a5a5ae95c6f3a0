pub mod Terms
pub mod Shards
pub mod Contents
pub mod Making
