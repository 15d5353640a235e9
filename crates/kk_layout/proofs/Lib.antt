pub mod BlockLemmas
pub mod Examples
pub mod TokenBounds
pub mod LayoutLemmas
