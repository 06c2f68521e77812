pub mod Faults
pub mod Told
pub mod States
pub mod MemInputs
pub mod MemOutputs
