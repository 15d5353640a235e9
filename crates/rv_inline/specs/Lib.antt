pub mod InLine
pub mod Relation
pub mod InLineLines
pub mod Growth
