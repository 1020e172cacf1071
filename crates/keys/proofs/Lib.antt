mod AllKeys
pub mod Eighteen
pub mod Masks
pub mod One
