pub mod Leads
pub mod Plain
pub mod PlainForms
pub mod Stops
