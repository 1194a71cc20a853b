pub mod SlotSteps
