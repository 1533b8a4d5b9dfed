pub mod Halves
pub mod Upper
pub mod Timekeeping
pub mod Returns
pub mod Translations
pub mod Keeping
