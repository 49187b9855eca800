-- The lists of pages, and what a reclaim passes over.
pub mod CountedTwice
pub mod FramesSkipped
pub mod ListsAsTold
pub mod PageJoins
pub mod PagesJoined
pub mod PageoutReclaims
pub mod PagesSpared
