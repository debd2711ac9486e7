pub mod Refusals
pub mod Calls
pub mod Examples
pub mod ExampleFiles
pub mod AllExamples
pub mod Slices
pub mod SliceLaws
pub mod Law
