mod Stepping
mod WordOrder
pub mod Climbing
pub mod KeyFronts
pub mod KeyLemmas
pub mod KeyOrder
pub mod NamesAbove
pub mod ParentEnds
pub mod SharedEnds
pub mod SortedNames
