pub mod Agreement
pub mod Built
pub mod ImageAfter
pub mod Images
pub mod Memory
pub mod SourceMeaning
pub mod Texts
pub mod WithoutLimits
