pub mod FieldLaws
pub mod Times
pub mod Maps
pub mod Pairs
pub mod LastPairs
