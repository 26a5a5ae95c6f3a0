pub mod PastEnd
pub mod Planning
pub mod Listings
pub mod Indexed
pub mod Chunks
pub mod Entries
pub mod StoreLaws
pub mod Links
pub mod Told
pub mod Accepting
pub mod Search
pub mod Data
pub mod Regrouped
pub mod TermLaws
pub mod RangesPast
pub mod Sets
pub mod Checking
pub mod ReadableLaws
pub mod ServingLaws
mod Undoing
mod GeneratedFiles
pub mod Joining
pub mod Alone
pub mod Batching
mod Uploading
