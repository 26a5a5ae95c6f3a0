pub mod ShardLaws
pub mod CanonicalLaws
pub mod EligibleLaws
