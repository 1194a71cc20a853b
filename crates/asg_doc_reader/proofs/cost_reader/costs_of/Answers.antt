use Rattle.asg_doc_reader.proofs.Common.{[], ◌∷◌, ◌++◌, length, sym, ap, subst, arith, to_z-of_z, eqb-true, eqb-false, bound_spelling, AreListed, AreListed-more, AreListed-all, w64}
use Rattle.asg_doc_reader.proofs.Leaves.{bound_word}
use Rattle.asg_doc_reader.proofs.cost_reader.costs_of.Goals as goal
use Rattle.asg_doc_reader.proofs.cost_reader.costs_of.Goals.{then-is_empty-via-then-is_empty, then-is_empty-via-else-is_empty+then-not-is_empty}

pub listed-preserved : goal.listed-preserved
listed-preserved c = rw c.in_ok-push.ensures.items
    (subst (λ cost. AreListed bound_spelling c.args.text.now (c.listed.costs.items ++ cost ∷ []) c.in-Some.left.now) (sym (to_z-of_z w64 c.in-Some.cost c.in-Some.ensures.has))
    (AreListed-more bound_word c.args.text.now c.listed.costs.items c.listed.rest.now c.in-Some.left.now c.in-Some.cost c.listed.invariant c.in-Some.ensures))

pub returns-then-is_empty : goal.returns-then-is_empty
returns-then-is_empty c = λ all list is.
    let read = AreListed-all bound_word c.args.text.now c.listed.costs.items c.listed.rest.now all c.listed.invariant c.in_default.ensures list is in
    elim c.then-is_empty.branch [
      | then-is_empty-via-then-is_empty w ↦ absurd (omega (arith, read.0, eqb-true c.listed.costs.len 0 (sym w.if-is_empty.ensures), c.listed.costs.ok))
      | then-is_empty-via-else-is_empty+then-not-is_empty w ↦ eqb-false (length c.listed.rest.now) 0 (sym w.if-not-is_empty.ensures) (ap length read.1)
    ]
