use Rattle.asg_grade_lists.proofs.Common.{◌≡◌, ℕ, ◌+◌, ◌-◌, ◌<◌, [], ◌∷◌, length, get_or, drop, sym, refl, ap, ◌∙◌, subst, arith, drop_all, drop_more, AreOfGrade, Word, PhaseOf}
use Rattle.asg_grade_lists.proofs.AmountLemmas.{grade_none}
use Rattle.asg_grade_lists.proofs.amounts.put_others.Goals as goal

pub phases-init : goal.phases-init
phases-init c =
    let g = c.args.grade in
    let side = length c.args.totals.now.rows in
    let phases = c.args.phases.now in
    let none : drop (length phases - 0) phases ≡ [] = drop_all (length phases - 0) phases (omega arith) in
    record {
      put = subst (λ ps. AreOfGrade g side ps c.args.totals.now) (sym none) (grade_none g side c.args.totals.now c.requires.none);
      side = refl;
      room = refl;
    }

pub phases-preserved : goal.phases-preserved
phases-preserved c =
    let g = c.args.grade in
    let side = length c.args.totals.now.rows in
    let phases = c.args.phases.now in
    let so = c.phases.invariant in
    let j : ℕ = length phases - (c.phases.back + 1) in
    let phase : PhaseOf Word = c.index-phases-count.result in
    let below : j < length phases = omega (arith, c.phases-test.true, c.requires.some) in
    let step : length phases - c.phases.back ≡ j + 1 = omega (arith, c.phases-test.true, c.requires.some) in
    let is : phase ≡ get_or phases j phase = c.index-phases-count.is ∙ ap (λ n. get_or phases n phase) (let e : length phases - 1 - c.phases.back ≡ j = omega arith in e) in
    let all : phase ∷ drop (j + 1) phases ≡ drop j phases = ap (λ p. p ∷ drop (j + 1) phases) is ∙ sym (drop_more phases j phase below) in
    let rest : AreOfGrade g side (drop (j + 1) phases) c.phases.totals = subst (λ n. AreOfGrade g side (drop n phases) c.phases.totals) step so.put in
    record {
      put = subst (λ ps. AreOfGrade g side ps c.put_before.new.totals) all
          (c.in_ok-is_put.ensures.put c.if-not-is_put.false side (so.room ∙ c.requires.room) so.side (drop (j + 1) phases) rest);
      side = c.put_before.ensures.side ∙ so.side;
      room = c.put_before.ensures.room ∙ so.room;
    }

pub returns-clause-put : goal.returns-clause-put
returns-clause-put c = λ _.
    let phases = c.args.phases.now in
    let done : length phases - c.phases.back ≡ 1 = omega (arith, c.phases-test.false, c.phases.auto.back-end, c.requires.some) in
    subst (λ n. AreOfGrade c.args.grade (length c.args.totals.now.rows) (drop n phases) c.phases.totals) done c.phases.invariant.put
