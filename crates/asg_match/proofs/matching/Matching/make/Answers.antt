use Rattle.asg_match.proofs.Common.{◌≡◌, replicate, None, sym, subst, arith, common_steps, IsMatching, IsPaired, AreFree, IsMatching-empty}
use Rattle.asg_match.proofs.PairedLemmas.{IsPaired-empty, AreFree-empty}
use Rattle.asg_match.proofs.matching.Matching.make.Goals as goal

pub invariant_of-result : goal.invariant_of-result
invariant_of-result c =
    let side = c.args.side in
    let columns : c.in_ok-columns.columns.items ≡ replicate side None = grind (arith, common_steps) in
    let rows : c.in_ok-rows.rows.items ≡ replicate side None = grind (arith, common_steps) in
    let paired = subst (λ xs. IsPaired side xs (replicate side None)) (sym columns) (IsPaired-empty side) in (
      subst (λ xs. IsPaired side c.in_ok-columns.columns.items xs) (sym rows) paired,
      subst (λ xs. AreFree side xs c.fill.new.words.items) (sym rows) (AreFree-empty side c.fill.new.words.items c.fill.ensures.set c.fill.ensures.all),
    )

pub returns-clause-matching : goal.returns-clause-matching
returns-clause-matching c =
    let empty : c.in_ok-columns.columns.items ≡ replicate c.args.side None = grind (arith, common_steps) in
    subst IsMatching (sym empty) (IsMatching-empty c.args.side)
