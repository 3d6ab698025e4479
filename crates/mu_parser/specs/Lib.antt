pub mod Prelude
pub mod ConditionViews
pub mod ExpressionViews
pub mod ItemViews
pub mod ModelViews
pub mod OpenLoops
pub mod SectionViews
