pub mod Starts
mod Bounds
pub mod Tapes
pub mod Slices
mod SliceLaws
mod WholeLaw
