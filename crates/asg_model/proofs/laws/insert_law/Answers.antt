use Rattle.asg_model.proofs.Common.{ℕ, ◌<◌, IsCostInRange, by_places}
use Rattle.asg_model.proofs.CellMaps.{All-insert_entry}
use Rattle.asg_model.proofs.laws.insert_law.Goals as goal

pub returns : goal.returns
returns c rows columns cells place cost kept row column near =
    let within = λ (p : ℕ × ℕ). (p.0 < rows) × (p.1 < columns) in
    All-insert_entry within IsCostInRange by_places cells place cost (row, column) near kept
