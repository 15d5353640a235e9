pub mod Outcomes
pub mod Texts
pub mod TypedRows
pub mod ExpressionMatches
