use Rattle.asg_objectives.proofs.Common.{◌≡◌, ℕ, List, length, IfSome, IfOk, Some, None, Ok, Err, Option, Result, refl, ap, ◌∙◌, length-replicate, IsAssignedFrom, Workplace, Monoid, Forest, Grid}
use Rattle.asg_algebra.specs.declared.square_solvers.AssignedSquare.{AssignedSquare}
use Rattle.asg_algebra.specs.Assigned.{IsAssigned}
use Rattle.asg_objectives.proofs.guessed_squares.solve_guessed.Goals as goal

assigned_from : {V E : Type 0} (M : Monoid V) (d : V → V → V) (Q : Grid V) (z : V) (matching : List (Option ℕ)) (forest : Forest V) (memory : Workplace V) (r : Result (Option (AssignedSquare V)) E) → z ≡ M.unit → length matching ≡ Q.side → IfOk r (λ found. IfSome found (IsAssigned M d (record { now = Q; index = z }) matching memory.matching forest memory.region)) → IfOk r (λ found. IfSome found (λ s. IsAssignedFrom M d Q s memory))
assigned_from M d Q z matching forest memory (Ok (Some s)) unit over assigned = record {
  after = assigned.after;
  from = record {
    before = record { now = Q; index = z };
    start = refl;
    at_unit = unit;
    matching = matching;
    over = over;
    forest = forest;
    solved = assigned.solved;
    ends = assigned.ends memory.bench.rows;
  };
  presence = assigned.presence;
}
assigned_from M d Q z matching forest memory (Ok None) unit over assigned = tt
assigned_from M d Q z matching forest memory (Err e) unit over assigned = tt

pub returns : goal.returns
returns g c =
    let m = c.args.m.now in
    let old = c.args.workplace.now in
    let new = c.assign_given.new in
    let none : Option ℕ = None in
    assigned_from (g.M.Ordered.monoid_of m) (g.M.DMonoid.difference m) c.args.square c.unit.result old.matching old.region
    (record { matching = new.matching; bench = old.bench; region = new.region }) c.assign_given.result c.unit.ensures.unit
    (ap length c.requires.fresh.matching_empty ∙ length-replicate c.args.square.side none)
    c.assign_given.ensures.assigned
