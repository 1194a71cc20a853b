use Rattle.asg_kept_phases.proofs.Common.{◌≡◌, sym, subst, arith, IsAtRow}
use Rattle.asg_kept_phases.proofs.named_places.rows_at.Goals as goal

pub returns-in-Some-clause-rows : goal.returns-in-Some-clause-rows
returns-in-Some-clause-rows c r below = (
  λ seen.
      let low = seen.0 in
      let high = seen.1 in
      let same : r ≡ c.in-Some.p = omega (arith, low, high) in
      subst (λ o. IsAtRow o r) (sym c.in-Some.is) same,
  λ at. let same : r ≡ c.in-Some.p = subst (λ o. IsAtRow o r) c.in-Some.is at in (omega (arith, same), omega (arith, same)),
)

pub returns-in-None-clause-rows : goal.returns-in-None-clause-rows
returns-in-None-clause-rows c r below = (
  λ seen. subst (λ o. IsAtRow o r) (sym c.in-None.is) tt,
  λ at. (omega arith, below),
)
