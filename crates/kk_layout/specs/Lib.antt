pub mod Blocks
pub mod Kinds
pub mod Layouts
pub mod Rules
pub mod States
pub mod Views
