pub mod WorkerThreads
pub mod Flows
pub mod WorkerOutputs
pub mod Passes
pub mod Runs
pub mod WorkerSteps
