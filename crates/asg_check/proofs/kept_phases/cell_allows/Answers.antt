use Rattle.asg_check.proofs.Common.{◌≡◌, ◌+◌, [], ◌∷◌, drop, drop_more, Some, sym, ap, ◌∙◌, subst, arith}
use Rattle.asg_model.proofs.Kit.{drop_all}
use Rattle.asg_check.proofs.KnownWords.{allows-none}
use Rattle.asg_check.specs.KnownPhases.{AllowsWords}
use Rattle.asg_check.proofs.kept_phases.cell_allows.Goals as goal

pub phases-init : goal.phases-init
phases-init g c = record { value = c.requires; so_far = λ all. all }

pub phases-preserved : goal.phases-preserved
phases-preserved g c =
    let m = c.args.m.now in
    let M = g.M.Ordered.monoid_of m in
    let d = g.M.DMonoid.difference m in
    let w = g.M.Written.word_of m in
    let words = c.args.phases.now in
    let i = c.phases.place in
    let phase = c.index-phases-place.result in
    let more : drop i words ≡ phase ∷ drop (i + 1) words = drop_more words i phase c.phases-test.true ∙ ap (λ p. p ∷ drop (i + 1) words) (sym c.index-phases-place.is) in
    record {
      value = rw c.in-Some.is at c.in_ok-y.ensures.is_value;
      so_far = λ rest.
          c.phases.invariant.so_far
          (subst (λ ws. AllowsWords M d w ws c.args.row c.args.column (Some c.phases.now)) (sym more)
          ((rw c.in-Some.is at c.in_ok-y.ensures.allowed) (drop (i + 1) words) rest));
    }

pub returns : goal.returns
returns g c = λ _.
    let m = c.args.m.now in
    let M = g.M.Ordered.monoid_of m in
    let d = g.M.DMonoid.difference m in
    let w = g.M.Written.word_of m in
    let words = c.args.phases.now in
    let none : drop c.phases.place words ≡ [] = drop_all c.phases.place words (omega (arith, c.phases-test.false)) in
    c.phases.invariant.so_far
    (subst (λ ws. AllowsWords M d w ws c.args.row c.args.column (Some c.phases.now)) (sym none)
    (allows-none M w (g.M.Written.value_of m) (g.met.M.Written.word_laws m) d c.args.row c.args.column (Some c.phases.now)))
