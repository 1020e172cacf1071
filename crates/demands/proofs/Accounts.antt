-- Demand 3, and up to the text of a listing.
pub mod ListingShows
pub mod Accounted
