pub mod HandCode
