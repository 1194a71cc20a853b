pub mod MadeInstances
