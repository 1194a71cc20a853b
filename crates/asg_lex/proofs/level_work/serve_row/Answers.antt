use Rattle.asg_lex.proofs.Common.{◌≡◌, ◌<◌, ◌≢◌, length, None, All, AllPairs, sym, refl, ap, ◌∙◌, subst, arith, rules, IsUnderway, IsMarked, IsStuck, AllAllowed, IsMatched, column_at}
use Rattle.asg_match.specs.declared.augmentation.Grown.TheVariants.{Longer, Short}
use Rattle.asg_lex.proofs.level_work.serve_row.Goals as goal

pub steps-init : goal.steps-init
steps-init c =
    let few = c.few_phases.ensures in
    let side = c.side-side.ensures.side in
    record {
      same = refl;
      tree_side = refl;
      underway = c.requires.underway;
      on = record { zeros = refl; ones = refl; side = refl };
      cells = c.requires.cells;
      few = omega (arith, few, side);
    }

pub augment-requires : goal.augment-requires
augment-requires c =
    let i = c.steps.invariant in
    let w = c.steps.work in
    let side = ap length i.same in
    let below = c.requires.row_below in
    record {
      side = i.underway.marks_side ∙ sym side;
      tree_side = i.tree_side ∙ c.requires.tree_side ∙ sym side;
      root_below = omega (arith, side, below);
      root_free = subst (λ m. column_at m c.args.row ≡ None) (sym i.same) c.requires.row_free;
      cells = subst (AllAllowed (IsMarked w.marks.bits w.marks.side)) (sym i.same) i.cells;
    }

-- the tree is stuck, and the matching as it was
pub step-requires : goal.step-requires
step-requires c =
    let i = c.steps.invariant in
    let w = c.steps.work in
    let rows = c.rows.result.now in
    let short : c.augment.result ≡ Short = search rules in
    let still = c.augment.ensures.unchanged short in
    let same = still ∙ i.same in
    let side = ap length same in
    let tree = c.augment.ensures.tree_side ∙ i.tree_side ∙ c.requires.tree_side ∙ sym side in
    let few = i.few in
    let below = c.requires.row_below in
    record {
      underway = subst (λ n. IsUnderway n w) (sym side) i.underway;
      few = omega (arith, few, side);
      cells = subst (AllAllowed (IsMarked w.marks.bits w.marks.side)) (sym same) i.cells;
      stuck = subst (λ m. IsStuck (IsMarked w.marks.bits w.marks.side) m c.args.row rows) (sym still)
          (subst (IsStuck (IsMarked w.marks.bits w.marks.side) c.steps.matching c.args.row) (sym c.rows.ensures.rows) (c.augment.ensures.stuck short));
      root = omega (arith, side, below);
      below = subst (λ n. All (λ r. r < n) rows) tree (subst (All (λ r. r < c.augment.new.tree.side)) (sym c.rows.ensures.rows) c.rows.ensures.below);
      apart = subst (AllPairs ◌≢◌) (sym c.rows.ensures.rows) c.rows.ensures.apart;
    }

pub steps-preserved : goal.steps-preserved
steps-preserved c =
    let i = c.steps.invariant in
    let e = c.in_ok-step.ensures in
    let w = c.step.new.work in
    let short : c.augment.result ≡ Short = search rules in
    let same = c.augment.ensures.unchanged short ∙ i.same in
    let few = c.few_phases-in-steps.ensures in
    let side = c.side-side.ensures.side in
    record {
      same = same;
      tree_side = c.augment.ensures.tree_side ∙ i.tree_side;
      underway = subst (λ n. IsUnderway n w) (ap length same) e.underway;
      on = record { zeros = e.on.zeros ∙ i.on.zeros; ones = e.on.ones ∙ i.on.ones; side = e.on.side ∙ i.on.side };
      cells = subst (AllAllowed (IsMarked w.marks.bits w.marks.side)) same e.cells;
      few = omega (arith, few, side);
    }

pub returns : goal.returns
returns c =
    let i = c.steps.invariant in
    let longer : c.augment.result ≡ Longer = search rules in
    let l = c.augment.ensures.longer longer in
    record {
      side = c.augment.ensures.side ∙ ap length i.same;
      tree_side = c.augment.ensures.tree_side ∙ i.tree_side;
      underway = i.underway;
      on = i.on;
      cells = l.cells;
      kept = λ r matched. l.kept r (subst (λ f. IsMatched f r) (sym i.same) matched);
      served = l.added;
    }
