-- Whether an open node may be open, by the index of its trail.
use Rattle.asg_trees.proofs.Common.{◌≡◌, Bool, true, false, cond, ◌↔◌, List, Some, Option, sym, refl, ap, ◌∙◌, subst, false≢true, BitTable, HaveIndexAfter, Monoid, IsLe, HasWords, Word, PhaseOf, index_of, phases-once, Grid, cell_at, masked_grid, JudgesOpen, LeftOpen, Fine}

module _ {V : Type 0} (M : Monoid V) (difference : V → V → V) (word_of : V → Word) (value_of : Word → Option V) (spelled : HasWords M word_of value_of) (Q : Grid V) (kept : BitTable) (before : V) (words : List (PhaseOf Word)) where
  -- words have one index
  index_once : (index other : V) → HaveIndexAfter M difference word_of Q kept before words index → HaveIndexAfter M difference word_of Q kept before words other → other ≡ index
  index_once index other have have_other =
      let same = phases-once M word_of value_of spelled difference Q.side (cell_at (masked_grid Q kept.words)) have_other.admitted.phases have.admitted.phases have_other.admitted.admitted have.admitted.admitted
      (have_other.admitted.written ∙ sym have.admitted.written) in
      have_other.product ∙ ap (λ phases. M.product before (index_of M phases)) same ∙ sym have.product

  -- the judgement by a test of the index
  pub open_judged : (last : Option V) (index : V) → HaveIndexAfter M difference word_of Q kept before words index → (b : Bool) → (b ≡ true) ↔ ((z : V) × (last ≡ Some z) × IsLe M z index) → JudgesOpen M difference word_of last Q kept before words (cond b Fine LeftOpen)
  open_judged last index have true test = let most = test.0 refl in (most.0, index, most.1, have, most.2)
  open_judged last index have false test = (
    have.admitted,
    λ bounded. false≢true (test.1 (bounded.0, bounded.2, subst (λ i. IsLe M bounded.0 i) (index_once index bounded.1 have bounded.3) bounded.4)),
  )
