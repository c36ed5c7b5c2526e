-- To be believed: what a live text is, and what it makes whole at each line.
pub mod LiveGrammar
pub mod LiveCommands
pub mod Stands
pub mod Laws
-- States of the reader, of which no public clause speaks.
pub mod States
