-- A square that stays that of a node's part.
use Rattle.asg_branching.proofs.Common.{◌≡◌, ℕ, ◌≤◌, length, IfSome, Option, sym, ◌∙◌, subst, arith, Reduced, Problem, entry_at, Rules, IsReducedTo, KeepsTrails, IsStanding, Tree, phases_same, Forest, IsLive, after_phases, square_cell}

-- a square stays that of a part where the region keeps its trails
pub IsReducedTo-kept : {V : Type 0} (R : Rules V) (F G : Forest V) → KeepsTrails F G → (Y : Problem) (trail : Option ℕ) (index : V) (reduced : Reduced V) → IfSome trail (IsLive F) → IsReducedTo R F Y trail index reduced → IsReducedTo R G Y trail index reduced
IsReducedTo-kept R F G keeps Y trail index reduced live to = record {
  labels = to.labels;
  values = to.values;
  cells = λ r k. to.cells r k ∙ (λ i. after_phases R.monoid R.difference (sym (phases_same F G keeps trail live) i) (square_cell Y R.monoid.unit R.enter) r k);
  index_is = to.index_is;
}

-- a square stays that of a node where the tree keeps the trails and indexes of its nodes, and their
-- parts
module _ {V : Type 0} (R : Rules V) (T U : Tree V) (part now : ℕ → Problem) (keeps : KeepsTrails T.region U.region) (more : length T.entries.items ≤ length U.entries.items)
    (live : (n : ℕ) → 1 ≤ n → n ≤ length T.entries.items → IfSome (entry_at R.monoid.unit T.entries.items n).trail (IsLive T.region))
    (trails : (n : ℕ) → 1 ≤ n → n ≤ length T.entries.items → (entry_at R.monoid.unit U.entries.items n).trail ≡ (entry_at R.monoid.unit T.entries.items n).trail)
    (indexes : (n : ℕ) → 1 ≤ n → n ≤ length T.entries.items → (entry_at R.monoid.unit U.entries.items n).index ≡ (entry_at R.monoid.unit T.entries.items n).index)
    (parts : (n : ℕ) → n ≤ length T.entries.items → now n ≡ part n)
  where
    pub standing_kept : (node : ℕ) (square : Reduced V) → IsStanding R T part node square → IsStanding R U now node square
    standing_kept node square standing =
        let upto = standing.upto in
        record {
          upto = omega (arith, upto, more);
          reduced = λ some.
              let e = entry_at R.monoid.unit T.entries.items node in
              let u = entry_at R.monoid.unit U.entries.items node in
              subst (λ Y. IsReducedTo R U.region Y u.trail u.index square) (sym (parts node upto))
              (subst (λ t. IsReducedTo R U.region (part node) t u.index square) (sym (trails node some upto))
              (subst (λ z. IsReducedTo R U.region (part node) e.trail z square) (sym (indexes node some upto))
              (IsReducedTo-kept R T.region U.region keeps (part node) e.trail e.index square (live node some upto) (standing.reduced some))));
        }
