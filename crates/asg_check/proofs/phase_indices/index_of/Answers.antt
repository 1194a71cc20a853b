use Rattle.asg_check.proofs.Common.{◌≡◌, ℕ, ◌+◌, ◌-◌, ◌<◌, [], ◌∷◌, length, get_or, drop, drop_more, sym, ap, ◌∙◌, subst, arith}
use Rattle.asg_model.proofs.Kit.{drop_all}
use Rattle.asg_check.proofs.KnownWords.{index-none}
use Rattle.asg_check.specs.KnownPhases.{HaveTheIndex}
use Rattle.asg_order.specs.declared.words.Word.{Word}
use Rattle.asg_proof.specs.Phases.{PhaseOf}
use Rattle.asg_check.proofs.phase_indices.index_of.Goals as goal

pub phases-init : goal.phases-init
phases-init g c =
    let words = c.args.phases.now in
    let m = c.args.m.now in
    let M = g.M.Ordered.monoid_of m in
    let w = g.M.Written.word_of m in
    let none : drop (length words - 0) words ≡ [] = drop_all (length words - 0) words (omega arith) in
    record {
      index = subst (HaveTheIndex M w c.unit-index.result) (sym none) (subst (λ z. HaveTheIndex M w z []) (sym c.unit-index.ensures.unit) (index-none M w (g.M.Written.value_of m) (g.met.M.Written.word_laws m)));
      value = c.unit-index.ensures.is_value;
    }

pub phases-preserved : goal.phases-preserved
phases-preserved g c =
    let words = c.args.phases.now in
    let m = c.args.m.now in
    let M = g.M.Ordered.monoid_of m in
    let w = g.M.Written.word_of m in
    let j : ℕ = length words - (c.phases.back + 1) in
    let phase : PhaseOf Word = c.index-phases-count.result in
    let below : j < length words = omega (arith, c.phases-test.true) in
    let step : length words - c.phases.back ≡ j + 1 = omega (arith, c.phases-test.true) in
    let is : phase ≡ get_or words j phase = c.index-phases-count.is ∙ ap (λ n. get_or words n phase) (let e : length words - 1 - c.phases.back ≡ j = omega arith in e) in
    let all : phase ∷ drop (j + 1) words ≡ drop j words = ap (λ p. p ∷ drop (j + 1) words) is ∙ sym (drop_more words j phase below) in
    let rest : HaveTheIndex M w c.phases.index (drop (j + 1) words) = subst (λ n. HaveTheIndex M w c.phases.index (drop n words)) step c.phases.invariant.index in
    let told = rw c.in-Some.is at c.in_ok-more.ensures.index in
    record {
      index = subst (HaveTheIndex M w c.in-Some.more) all (told (drop (j + 1) words) rest);
      value = rw c.in-Some.is at c.in_ok-more.ensures.is_value;
    }

pub returns-clause-index : goal.returns-clause-index
returns-clause-index g c =
    let words = c.args.phases.now in
    let m = c.args.m.now in
    let done : length words - c.phases.back ≡ 0 = omega (arith, c.phases-test.false) in
    subst (λ n. HaveTheIndex (g.M.Ordered.monoid_of m) (g.M.Written.word_of m) c.phases.index (drop n words)) done c.phases.invariant.index
