pub mod NearNames
pub mod OwnLabels
pub mod Owners
pub mod PointingRecords
pub mod Putting
