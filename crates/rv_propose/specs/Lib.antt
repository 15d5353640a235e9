pub mod Alive
pub mod Listings
pub mod Tables
