-- Laws that upper crates cite: of the solved squares of instances.
pub mod InstanceRoots
