-- The laws that the crates above cite.
pub mod PutLaws
pub use Rattle.asg_io.specs.Laws.PutLaws.{Puts-nil, Puts-append, PutsPrefix-more, PutsPrefix-append}
