pub mod WorkerThreadLemmas
pub mod EndLemmas
pub mod FlowLemmas
pub mod MergeLemmas
pub mod ToldLemmas
pub mod WorkerStepLemmas
