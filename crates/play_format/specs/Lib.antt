-- To be believed: what a text spells, and what its first wrong line is.
pub mod Numbers
pub mod Words
pub mod Commands
pub mod Places
pub mod Grammar
pub mod Spelling
pub mod Written
pub mod Plays
pub mod Reads
pub mod Messages
-- States of the reader and the writer, of which no public clause speaks.
pub mod Rests
pub mod Early
pub mod Making
pub mod Texts
pub mod Sections
pub mod Outcomes
