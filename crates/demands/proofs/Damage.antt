-- Demand 2 d: damage, and first bytes that are stray or early.
pub mod StrayOrEarly
pub mod Faults
pub mod DamageExactly
pub mod DamageReasons
