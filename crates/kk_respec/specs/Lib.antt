pub mod Respecialised
pub mod RespecialisedForms
pub mod KnownTokens
pub mod AllKnown
