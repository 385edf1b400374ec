pub mod TwoActors
pub mod TwoRemovals
pub mod TwoActorsCalls
pub mod DeviceCalls
