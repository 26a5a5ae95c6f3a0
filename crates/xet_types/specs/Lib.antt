pub mod Names
pub mod Faults
pub mod Failures
pub mod Outside
pub mod Ranges
pub mod Keys
pub mod Records
pub mod RecordMaps
