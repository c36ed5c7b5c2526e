mod Glass
mod DrawOrder
mod SendingOrder
mod Unnaming
mod Weaving
mod Found
mod Opened
mod Geodes
mod LevelStops
mod Lowering
mod Visiting
mod Finding
mod Pruning
mod WholeWalk
mod Sizes
mod Starting
mod Laying
mod Filling
mod Beginning
mod Ordering
mod Outcomes
mod Stepping
mod Numbers
mod Visits
mod RouteLaws
mod Measure
mod Passing
mod Rooms
mod FillTurns
mod PassLaws
mod FillLaws
pub mod Dealing
pub mod Exchanged
pub mod InTurn
pub mod Going
mod FullPieces
pub mod ListsSent
pub mod FramesSent
pub mod HandedOn
pub mod Turns
pub mod Channels
mod FrameNumbers
mod Streamable
mod DealtFrames
mod WholeLoads
pub mod WholeFrames
