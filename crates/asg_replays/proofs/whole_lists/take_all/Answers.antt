use Rattle.asg_replays.proofs.Common.{◌≡◌, ℕ, ◌+◌, ◌-◌, ◌<◌, [], ◌∷◌, length, get_or, drop, sym, refl, ap, ◌∙◌, subst, arith, drop_all, drop_more, Word, PhaseOf, AreTotalsOf}
use Rattle.asg_replays.proofs.whole_lists.take_all.Goals as goal

pub phases-init : goal.phases-init
phases-init g c =
    let words = c.args.phases.now in
    let none : drop (length words - 0) words ≡ [] = drop_all (length words - 0) words (omega arith) in
    let taken : AreTotalsOf [] c.args.totals.now = record { phases = []; written = refl; come = c.requires.none } in
    record {
      taken = subst (λ ws. AreTotalsOf ws c.args.totals.now) (sym none) taken;
      side = refl;
    }

pub phases-preserved : goal.phases-preserved
phases-preserved g c =
    let words = c.args.phases.now in
    let j : ℕ = length words - (c.phases.back + 1) in
    let phase : PhaseOf Word = c.index-phases-count.result in
    let below : j < length words = omega (arith, c.phases-test.true) in
    let step : length words - c.phases.back ≡ j + 1 = omega (arith, c.phases-test.true) in
    let is : phase ≡ get_or words j phase = c.index-phases-count.is ∙ ap (λ n. get_or words n phase) (let e : length words - 1 - c.phases.back ≡ j = omega arith in e) in
    let all : phase ∷ drop (j + 1) words ≡ drop j words = ap (λ p. p ∷ drop (j + 1) words) is ∙ sym (drop_more words j phase below) in
    let rest : AreTotalsOf (drop (j + 1) words) c.phases.totals = subst (λ n. AreTotalsOf (drop n words) c.phases.totals) step c.phases.invariant.taken in
    record {
      taken = subst (λ ws. AreTotalsOf ws c.take_in.new.totals) all (c.in_ok-take_in.ensures.taken c.if-not-branch.false (drop (j + 1) words) rest);
      side = c.in_ok-take_in.ensures.side ∙ c.phases.invariant.side;
    }

pub returns-clause-taken : goal.returns-clause-taken
returns-clause-taken g c = λ _.
    let words = c.args.phases.now in
    let done : length words - c.phases.back ≡ 0 = omega (arith, c.phases-test.false) in
    subst (λ n. AreTotalsOf (drop n words) c.phases.totals) done c.phases.invariant.taken
