pub mod Matches
pub mod ExampleSpelling
pub mod TypedRows
