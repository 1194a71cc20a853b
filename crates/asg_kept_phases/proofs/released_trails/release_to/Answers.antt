use Rattle.asg_kept_phases.proofs.Common.{◌≡◌, ℕ, ◌+◌, ◌-◌, ◌≤◌, length, take, sym, refl, ap, ◌∙◌, arith, length-take-le, take_all, phases_to}
use Rattle.asg_kept_phases.proofs.LeftLemmas.{take_twice}
use Rattle.asg_kept_phases.proofs.released_trails.release_to.Goals as goal

pub loop-init : goal.loop-init
loop-init g c =
    let P = phases_to c.args.region.now c.args.last in
    let all : (length P + c.args.count) - c.args.count ≡ length P = omega arith in (
      c.requires.chain,
      sym (take_all (length P) P (omega arith)) ∙ ap (λ n. take n P) (sym all),
      (omega arith),
      refl,
    )

pub release_last-left-requires-clause-chain : goal.release_last-left-requires-clause-chain
release_last-left-requires-clause-chain g c = c.loop.invariant.0

pub release_last-left-requires-clause-some : goal.release_last-left-requires-clause-some
release_last-left-requires-clause-some g c =
    let l = c.loop in
    let P = phases_to c.args.region.now c.args.last in
    let n : ℕ = (length P + c.args.count) - l.counter in
    let few : n ≤ length P = omega (arith, l.auto.counter) in
    omega (arith, ap length l.invariant.1, length-take-le n P few, c.loop-test.true, c.count_to-end.ensures, c.requires.few, l.auto.counter)

pub loop-preserved : goal.loop-preserved
loop-preserved g c =
    let l = c.loop in
    let P = phases_to c.args.region.now c.args.last in
    let n : ℕ = (length P + c.args.count) - l.counter in
    let few : n ≤ length P = omega (arith, l.auto.counter) in
    let size = ap length l.invariant.1 ∙ length-take-le n P few in
    let e = c.release_last-left.ensures in
    let fewer : length (phases_to l.region l.left) - 1 ≤ n = omega (arith, size) in
    let next : length (phases_to l.region l.left) - 1 ≡ (length P + c.args.count) - (l.counter + 1) = omega (arith, size) in (
      e.chain,
      e.phases
          ∙ ap (λ list. take (length (phases_to l.region l.left) - 1) list) l.invariant.1
          ∙ take_twice P (length (phases_to l.region l.left) - 1) n fewer
          ∙ ap (λ k. take k P) next,
      (omega (arith, e.spare, l.invariant.2)),
      e.side ∙ l.invariant.3,
    )

pub returns-clause-chain : goal.returns-clause-chain
returns-clause-chain g c = c.loop.invariant.0

pub returns-clause-phases : goal.returns-clause-phases
returns-clause-phases g c =
    let l = c.loop in
    let P = phases_to c.args.region.now c.args.last in
    let end : (length P + c.args.count) - l.counter ≡ c.args.count = omega (arith, c.loop-test.false, c.count_to-end.ensures, l.auto.counter, c.requires.few) in
    l.invariant.1 ∙ ap (λ n. take n P) end

pub returns-clause-spare : goal.returns-clause-spare
returns-clause-spare g c = c.loop.invariant.2

pub returns-clause-side : goal.returns-clause-side
returns-clause-side g c = c.loop.invariant.3
