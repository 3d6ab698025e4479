mod Common
mod Looping
