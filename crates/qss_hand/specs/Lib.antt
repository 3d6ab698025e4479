pub mod Prelude
pub mod Values
pub mod Works
pub mod Rooms
pub mod Assigned
