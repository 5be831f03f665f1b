pub mod Cuts
pub mod Fields
pub mod Hexadecimals
pub mod Joins
pub mod Outcomes
pub mod NormalForms
pub mod NormalPaths
pub mod Numbers
pub mod PathTexts
pub mod Prefixes
pub mod RouteFields
mod Seconds
pub mod Separated
pub mod StepWords
mod Timestamps
pub mod api
