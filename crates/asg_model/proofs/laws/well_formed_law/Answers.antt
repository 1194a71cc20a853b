use Rattle.asg_model.proofs.Common.{ℕ, ◌<◌, length, All-weaker, IsCostInRange, Cost}
use Rattle.asg_model.proofs.Tables.{IsWellFormed-cells}
use Rattle.asg_model.proofs.laws.well_formed_law.Goals as goal

pub returns : goal.returns
returns c rows columns cells place parts kept =
    let Kept : (ℕ × ℕ) × Cost → Type 0 = λ cell. ((cell.0.0 < length rows) × (cell.0.1 < length columns)) × IsCostInRange cell.1 in
    IsWellFormed-cells rows columns cells place parts
    (All-weaker Kept (λ cell. (cell.0.0 < length rows) × (cell.0.1 < length columns)) (λ cell h. h.0) cells kept)
    (All-weaker Kept (λ cell. IsCostInRange cell.1) (λ cell h. h.1) cells kept)
