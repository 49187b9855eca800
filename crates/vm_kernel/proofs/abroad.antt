-- What events of other hosts leave of a kernel.
pub mod OtherLists
pub mod OthersEvents
pub mod OwnEvents
pub mod OwnHost
