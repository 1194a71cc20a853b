use Rattle.asg_square.proofs.Common.{ℕ, ◌+◌, ◌-◌, false, not, ◌++◌, length, get_or, refl, ap, ◌∙◌, passing_below}
use Rattle.asg_square.proofs.PermSteps.{down_yes, down_no}
use Rattle.asg_square.proofs.assignments.free_columns.Goals.{then-not-taken-c+in_ok-push, else-not-taken-c}
use Rattle.asg_square.proofs.assignments.free_columns.Goals as goal

pub loop-i-preserved : goal.loop-i-preserved
loop-i-preserved c =
    let q = λ (k : ℕ). not (get_or c.args.taken.now k false) in
    let n = length c.args.taken.now in
    let i = c.loop-i.i in
    elim c.if-not-taken-c.branch [
      | then-not-taken-c+in_ok-push w ↦
          ap (λ v. v.items ++ passing_below q (n - (i + 1))) w.free-is
          ∙ ap (λ xs. xs ++ passing_below q (n - (i + 1))) w.in_ok-push.ensures.items
          ∙ down_yes q n i (n - 1 - i) c.loop-i.free.items (passing_below q n) c.loop-i-test.true refl c.loop-i.invariant (ap not w.if-not-taken-c.true)
      | else-not-taken-c w ↦
          ap (λ v. v.items ++ passing_below q (n - (i + 1))) w.free-is
          ∙ down_no q n i (n - 1 - i) c.loop-i.free.items (passing_below q n) c.loop-i-test.true refl c.loop-i.invariant (ap not w.if-not-taken-c.false)
    ]
