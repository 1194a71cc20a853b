use Rattle.asg_nodes.proofs.Common.{◌≡◌, ◌+◌, Some, None, sym, subst, rules, IsRunOf}
use Rattle.asg_nodes.proofs.CopyLemmas.{run_of_none, run_of_column}
use Rattle.asg_nodes.proofs.copies.copies_of.Goals as goal

pub returns-in-Some : goal.returns-in-Some
returns-in-Some g c =
    let X = c.args.inst.now in
    let d = c.in-Some.d in
    let from = c.first_copy-from.result in
    let capacity = c.capacity-capacity.result in
    let some : c.args.chosen ≡ Some d = search rules in
    record {
      run =
          subst (λ o. IsRunOf X o (record { from = from; to = from + capacity })) (sym some)
          (run_of_column X d from capacity (c.first_copy-from.ensures.first X c.requires.labels) c.capacity-capacity.ensures.capacity);
    }

pub returns-in-None : goal.returns-in-None
returns-in-None g c =
    let none : c.args.chosen ≡ None = search rules in
    record { run = subst (λ o. IsRunOf c.args.inst.now o (record { from = 0; to = 0 })) (sym none) (run_of_none c.args.inst.now) }
