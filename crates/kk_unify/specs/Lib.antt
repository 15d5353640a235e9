pub mod GraphOf
pub mod Graphs
pub mod Unification
pub mod Locality
pub mod NodesOf
pub mod Solutions
pub mod WalkOf
pub mod GraphWalk
