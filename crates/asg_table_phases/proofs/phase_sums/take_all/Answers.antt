use Rattle.asg_table_phases.proofs.Common.{◌≡◌, ℕ, ◌+◌, ◌-◌, ◌<◌, [], ◌∷◌, length, get_or, drop, sym, refl, ap, ◌∙◌, subst, arith, drop_all, drop_more, AreTotals, PhaseOf}
use Rattle.asg_table_phases.proofs.phase_sums.take_all.Goals as goal

pub phases-init : goal.phases-init
phases-init c =
    let phases = c.args.phases.now in
    let none : drop (length phases - 0) phases ≡ [] = drop_all (length phases - 0) phases (omega arith) in
    record {
      taken = subst (λ ps. AreTotals ps c.args.totals.now) (sym none) c.requires;
      side = refl;
    }

pub phases-preserved : goal.phases-preserved
phases-preserved c =
    let phases = c.args.phases.now in
    let j : ℕ = length phases - (c.phases.back + 1) in
    let phase : PhaseOf ℕ = c.index-phases-count.result in
    let below : j < length phases = omega (arith, c.phases-test.true) in
    let step : length phases - c.phases.back ≡ j + 1 = omega (arith, c.phases-test.true) in
    let is : phase ≡ get_or phases j phase = c.index-phases-count.is ∙ ap (λ n. get_or phases n phase) (let e : length phases - 1 - c.phases.back ≡ j = omega arith in e) in
    let all : phase ∷ drop (j + 1) phases ≡ drop j phases = ap (λ (p : PhaseOf ℕ). p ∷ drop (j + 1) phases) is ∙ sym (drop_more phases j phase below) in
    let rest : AreTotals (drop (j + 1) phases) c.phases.totals = subst (λ n. AreTotals (drop n phases) c.phases.totals) step c.phases.invariant.taken in
    record {
      taken = subst (λ ps. AreTotals ps c.take_in.new.totals) all (c.take_in.ensures.taken c.if-not-take_in.false (drop (j + 1) phases) rest);
      side = c.take_in.ensures.side ∙ c.phases.invariant.side;
    }

pub returns-clause-taken : goal.returns-clause-taken
returns-clause-taken c = λ _.
    let phases = c.args.phases.now in
    let done : length phases - c.phases.back ≡ 0 = omega (arith, c.phases-test.false) in
    subst (λ n. AreTotals (drop n phases) c.phases.totals) done c.phases.invariant.taken
