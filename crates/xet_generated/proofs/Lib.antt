pub mod Copies
pub mod Ends
pub mod Seeding
pub mod Pushing
pub mod Pieces
pub mod Whole
