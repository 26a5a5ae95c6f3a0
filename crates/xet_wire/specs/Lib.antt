pub mod Texts
pub mod Payloads
pub mod Links
pub mod Terms
pub mod Headers
pub mod Multipart
