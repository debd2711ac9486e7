pub mod Lines
pub mod Printed
pub mod Sessions
pub mod Desks
pub mod Cab
