pub mod Sums
pub mod Form
pub mod Matrix
pub mod Gram
pub mod RangedSums
