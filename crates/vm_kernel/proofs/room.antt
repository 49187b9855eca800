-- What a step spends, and that there is room for it.
pub mod CallsSpend
pub mod EndsSpend
pub mod KernelReady
pub mod MappingSpends
pub mod MergesSpend
pub mod OtherRoom
pub mod PartsOfStep
pub mod QueueRoom
pub mod RoomForRun
pub mod RunPays
