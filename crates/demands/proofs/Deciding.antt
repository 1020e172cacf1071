-- The demands decide every answer: links that reported alike so far report alike.
pub mod Fixed
pub mod Agree
pub mod SameList
pub mod Sharing
pub mod Starts
pub mod Messages
pub mod Ends
pub mod IdleAsked
