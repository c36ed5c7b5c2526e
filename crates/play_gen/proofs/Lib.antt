pub mod DrawLemmas
pub mod TextLemmas
pub mod FollowLemmas
pub mod ReadingLemmas
pub mod EndLemmas
