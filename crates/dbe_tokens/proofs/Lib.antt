pub mod Fronts
pub mod Cuts
pub mod Opens
pub mod TokenEnds
pub mod TokenRanges
