mod StepLaws
mod BoxSteps
mod TurnLaws
mod ExtentLaws
mod StepLists
mod Marks
mod Orders
pub mod Listed
