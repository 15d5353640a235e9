pub mod ArmDebts
pub mod CellTables
pub mod TwoRows
