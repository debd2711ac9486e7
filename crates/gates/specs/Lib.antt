pub mod Gates
pub mod Words
