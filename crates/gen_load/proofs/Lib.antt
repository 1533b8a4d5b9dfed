pub mod Drawing
pub mod Compute
pub mod Said
pub mod Shallow
pub mod Configs
pub mod Hardwares
pub mod Bundles
