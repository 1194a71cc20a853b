-- The laws that the crates above cite.
pub mod CellLaws
pub use Rattle.asg_answers.specs.Laws.CellLaws.{length-cells_by_id-le, length-cells_by_id-some}
