use Rattle.asg_match.proofs.Common.{ℕ, ◌<◌, List, length, get_or, Option, sym, ap, ◌∙◌, subst, ⊎_elim, arith, AllParentsAllowed, Flips, AllAllowed, parents_in, IsStuck-from_tree, IsDeficient-from_tree}
use Rattle.asg_match.specs.Augmentation.{IsLonger, IsStuck}
use Rattle.asg_match.proofs.augmentation.augment.Goals as goal
use Rattle.asg_match.proofs.augmentation.augment.Goals.{in-Some, in-None}

pub returns-clause-stuck : goal.returns-clause-stuck
returns-clause-stuck g c =
    let m = c.args.matching.now in
    let t = c.grow.new.tree in
    let s = c.grow.ensures.search in
    elim c.match-grow.branch [
      | in-Some w ↦ λ e. absurd (cc)
      | in-None w ↦ λ e.
          let first : 0 < length c.start.new.tree.rows.items = omega (arith, ap length c.start.ensures.rows) in
          let root = c.grow.ensures.extends.rows 0 first ∙ ap (λ xs. get_or xs 0 0) c.start.ensures.rows in
          subst (λ r. IsStuck (g.A.Allowed.allows c.args.allowed.now) m r t.rows.items) root
          (IsStuck-from_tree m t.rows.items (parents_in t) (g.A.Allowed.allows c.args.allowed.now) c.grow.ensures.matching s.tree_grown.grown s.cells w.in-None.ensures.none)
    ]

pub returns-clause-short : goal.returns-clause-short
returns-clause-short g c =
    let m = c.args.matching.now in
    let t = c.grow.new.tree in
    let s = c.grow.ensures.search in
    elim c.match-grow.branch [
      | in-Some w ↦ λ e. absurd (cc)
      | in-None w ↦ λ e.
          IsDeficient-from_tree m t.rows.items (parents_in t) (g.A.Allowed.allows c.args.allowed.now) c.grow.ensures.matching s.tree_grown.grown s.cells w.in-None.ensures.none
    ]

-- after the flip each cell is allowed, and the root has a column
IsLonger-from_flip : (allows : ℕ → ℕ → Type 0) (rows : List ℕ) (parents : ℕ → Option ℕ) (place column : ℕ) (before after : List (Option ℕ)) → AllAllowed allows before → AllParentsAllowed allows rows parents → allows (get_or rows place 0) column → Flips rows parents place column before after → IsLonger allows before after (get_or rows 0 0)
IsLonger-from_flip allows rows parents place column before after old cells cell flipped =
    record {
      kept = flipped.kept;
      added = flipped.added;
      only = flipped.only;
      cells = λ r c e.
          ⊎_elim
          (old r c)
          (⊎_elim
          (λ end. subst (λ s. allows s c) (sym end.0) (subst (allows (get_or rows place 0)) (sym end.1) cell))
          (λ link. subst (λ s. allows s c) (sym link.1) (cells c link.0 link.2)))
          (flipped.cells r c e);
    }

pub returns-clause-longer : goal.returns-clause-longer
returns-clause-longer g c =
    let m = c.args.matching.now in
    let t = c.grow.new.tree in
    let s = c.grow.ensures.search in
    let allows = g.A.Allowed.allows c.args.allowed.now in
    elim c.match-grow.branch [
      | in-Some w ↦ λ e.
          let first : 0 < length c.start.new.tree.rows.items = omega (arith, ap length c.start.ensures.rows) in
          let root = c.grow.ensures.extends.rows 0 first ∙ ap (λ xs. get_or xs 0 0) c.start.ensures.rows in
          let found = w.in-Some.ensures.found in
          subst (λ r. IsLonger allows m c.match-grow.matching r) root
          (subst (λ n. IsLonger allows m n (get_or t.rows.items 0 0)) (sym w.matching-is)
          (IsLonger-from_flip allows t.rows.items (parents_in t) w.in-Some.exit.place w.in-Some.exit.column m w.flip.new.matching c.requires.cells s.cells found.open_cell.cell w.flip.ensures))
      | in-None w ↦ λ e. absurd (cc)
    ]
