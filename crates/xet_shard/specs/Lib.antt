pub mod Values
pub mod Listings
pub mod ShardBytes
pub mod ShardReading
pub mod ShardLengths
pub mod Canonical
pub mod Eligible
