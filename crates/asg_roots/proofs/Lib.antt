pub mod Common
mod RootSteps
