mod Common
pub mod GoingOn
pub mod DueLevels
mod Courses
mod Shifting
pub mod Counting
pub mod Renewed
mod Seats
mod Assigned
mod Reseating
mod Weighed
mod Marked
mod Allowed
mod Found
mod Taken
mod Kept
