pub mod LabelTables
