-- Laws of components lost, of parts of a block, of a run's end and of its status.
pub mod Bytes
pub mod Ended
pub mod Held
pub mod Parts
