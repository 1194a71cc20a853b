use Rattle.asg_kept_cells.proofs.Common.{◌≡◌, List, [], ◌∷◌, length, sym, refl, ◌∙◌, subst, arith, eqb-true, HaveIndexAfter, Word, PhaseOf}
use Rattle.asg_kept_cells.proofs.OwnPhases.{index_none}
use Rattle.asg_kept_cells.proofs.own_phases.own_index.Goals as goal

empty_list : (xs : List (PhaseOf Word)) → length xs ≡ 0 → xs ≡ []
empty_list [] e = refl
empty_list (x ∷ xs) e = absurd (omega (arith, e))

pub returns-then-is_empty-clause-some : goal.returns-then-is_empty-clause-some
returns-then-is_empty-clause-some g c =
    let m = c.args.m.now in
    let M = g.M.Ordered.monoid_of m in
    let d = g.M.DMonoid.difference m in
    let w = g.M.Written.word_of m in
    let none = empty_list c.args.own.now (eqb-true (length c.args.own.now) 0 (sym c.is_empty.ensures ∙ c.if-is_empty.true)) in
    subst (λ own. HaveIndexAfter M d w c.args.square.now c.args.kept.now c.args.before own c.args.before) (sym none)
    (index_none M (g.met.M.Ordered.laws m) d w c.args.square.now c.args.kept.now c.args.before c.requires.before)
