-- Laws that upper crates cite: what verdicts tell of reasons, reasons that stand at parts, facts of
-- phases by the monoid of the objective, and what verdicts tell of levels.
pub mod ToldReasons
pub mod Parts
pub mod ByObjective
pub mod LevelTold
