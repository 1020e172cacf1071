-- Demand 2 a: key bytes, frames, timing codes.
pub mod LengthPlaced
