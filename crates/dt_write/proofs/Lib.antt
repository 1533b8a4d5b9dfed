pub mod Laid
pub mod Laying
pub mod Whole
pub mod Faults
pub mod CanonicalHeader
pub mod CanonicalReserve
pub mod CanonicalTokens
pub mod CanonicalBlob
