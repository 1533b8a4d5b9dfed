pub mod Clock
pub mod Tlb
pub mod Entry
pub mod Privileged
pub mod Laws
