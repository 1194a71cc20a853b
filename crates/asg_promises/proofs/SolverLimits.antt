-- A solver either takes an instance or refuses it: its live cells have one number of different
-- costs, and it has one number of rows.
use Rattle.asg_promises.proofs.Common.{◌≡◌, ℕ, ◌≤◌, List, length, ℤ, arith, Decides-int_eq, IsDistinct-from_AllPairs, int_eq_equiv, is_member-Decides, length-le_from_is_member, SolverRefuses, SolverTakes, Problem, Objective, Balanced, Lex}
use Rattle.asg_model.specs.DifferentCosts.{AreLiveCosts, HasCosts}

-- different costs of live cells are no more than all of them
no_more : (X : Problem) (costs others : List ℤ) → AreLiveCosts X costs → AreLiveCosts X others → length costs ≤ length others
no_more X costs others are all =
    length-le_from_is_member int_eq_equiv costs others (IsDistinct-from_AllPairs Decides-int_eq costs are.apart)
    (λ a among. (is_member-Decides Decides-int_eq others a).1 ((all.exact a).1 ((are.exact a).0 ((is_member-Decides Decides-int_eq costs a).0 among))))

one_count : (X : Problem) (n m : ℕ) → HasCosts X n → HasCosts X m → n ≡ m
one_count X n m first second =
    omega (arith, first.counted, second.counted, no_more X first.costs second.costs first.all second.all, no_more X second.costs first.costs second.all first.all)

-- no instance is both taken and refused
pub taken_apart : {P : Type 0} (objective : Objective) (X : Problem) (count : ℕ) → SolverTakes objective X → SolverRefuses objective X count → P
taken_apart Balanced X count takes refuses =
    let same = one_count X takes.count count takes.costs refuses.0 in
    absurd (omega (arith, same, takes.few, refuses.1))
taken_apart Lex X count takes refuses = absurd (omega (arith, takes, refuses.0, refuses.1))
taken_apart _ X count takes refuses = absurd refuses

-- a refusal tells one number
pub refused_once : (objective : Objective) (X : Problem) (n m : ℕ) → SolverRefuses objective X n → SolverRefuses objective X m → n ≡ m
refused_once Balanced X n m first second = one_count X n m first.0 second.0
refused_once Lex X n m first second = omega (arith, first.0, second.0)
refused_once _ X n m first second = absurd first
