-- What the words of phases tell of the phases of values that have them.
use Rattle.asg_check.proofs.Common.{◌≡◌, ℕ, List, [], ◌∷◌, map, All, All-head, All-tail, IfSome, IsSome, Some, None, Option, same_Some, refl, sym, ap, ◌∙◌, subst}
use Rattle.std.specs.Prelude.{slice_index}
use Rattle.asg_admit.specs.KeptCells.{AllowsPhases}
use Rattle.asg_admit.specs.Settled.{AllowsSteps, settled}
use Rattle.asg_check.specs.KnownPhases.{AllowsWords, HaveTheIndex}
use Rattle.asg_order.specs.Monoid.{IsValue, Monoid, fold_of}
use Rattle.asg_order.specs.Words.{HasWords}
use Rattle.asg_order.specs.declared.words.Word.{Word}
use Rattle.asg_proof.specs.Phases.{PhaseOf, index_of, phase_of, worded}
use Rattle.asg_replays.specs.laws.PhaseWords.{values-once}

module _ {V : Type 0} (M : Monoid V) (word_of : V → Word) (value_of : Word → Option V) (spelled : HasWords M word_of value_of) where
  abbrev Valued : PhaseOf V → Type 0
  Valued phase = All (IsValue M) phase.steps

  -- a phase of values is told by its words
  phase_is : (word : PhaseOf Word) (values : List V) (phase : PhaseOf V) → All (IsValue M) values → map word_of values ≡ word.steps → Valued phase → worded word_of phase ≡ word → phase ≡ phase_of values word.enters word.leaves
  phase_is word values phase vs written ps same =
      let steps = values-once M word_of value_of spelled phase.steps values ps vs (ap (λ p. p.steps) same ∙ sym written) in
      ap (λ xs. phase_of xs phase.enters phase.leaves) steps
      ∙ ap (λ es. phase_of values es phase.leaves) (ap (λ p. p.enters) same)
      ∙ ap (λ ls. phase_of values word.enters ls) (ap (λ p. p.leaves) same)

  -- no phases have the unit
  pub index-none : HaveTheIndex M word_of M.unit []
  index-none [] are same = refl
  index-none (p ∷ ps) are same = absurd (cc)

  -- one more before others
  pub index-more : (word : PhaseOf Word) (values : List V) (index : V) (rest : List (PhaseOf Word)) → All (IsValue M) values → map word_of values ≡ word.steps → HaveTheIndex M word_of index rest → HaveTheIndex M word_of (M.product (fold_of M values) index) (word ∷ rest)
  index-more word values index rest vs written have [] are same = absurd (cc)
  index-more word values index rest vs written have (p ∷ ps) are same =
      let head : worded word_of p ≡ word = cc in
      let tail : map (worded word_of) ps ≡ rest = cc in
      let is = phase_is word values p vs written (All-head Valued p ps are) head in
      ap (λ q. M.product (fold_of M q.steps) (index_of M ps)) is
      ∙ ap (λ z. M.product (fold_of M values) z) (have ps (All-tail Valued p ps are) tail)

  module _ (difference : V → V → V) (r k : ℕ) where
    -- no phases are allowed by each cell
    pub allows-none : (cell : Option V) → AllowsWords M difference word_of [] r k cell
    allows-none cell [] are same = tt
    allows-none cell (p ∷ ps) are same = absurd (cc)

    -- so is one more before others, where the cell allows its steps and the others after them
    pub allows-more : (word : PhaseOf Word) (values : List V) (x y : V) (rest : List (PhaseOf Word)) → All (IsValue M) values → map word_of values ≡ word.steps → AllowsSteps M difference values (slice_index word.enters r) (slice_index word.leaves k) x → y ≡ settled M difference values (slice_index word.enters r) (slice_index word.leaves k) x → AllowsWords M difference word_of rest r k (Some y) → AllowsWords M difference word_of (word ∷ rest) r k (Some x)
    allows-more word values x y rest vs written allows is more [] are same = absurd (cc)
    allows-more word values x y rest vs written allows is more (p ∷ ps) are same =
        let head : worded word_of p ≡ word = cc in
        let tail : map (worded word_of) ps ≡ rest = cc in
        let phase = phase_is word values p vs written (All-head Valued p ps are) head in
        subst (λ q. AllowsPhases M difference (q ∷ ps) r k (Some x)) (sym phase) (
          (λ z at. subst (AllowsSteps M difference values (slice_index word.enters r) (slice_index word.leaves k)) (same_Some x z at) allows),
          subst (AllowsPhases M difference ps r k) (ap Some is) (more ps (All-tail Valued p ps are) tail),
        )

    -- what a replay of the cell tells
    pub through-words : (word : PhaseOf Word) (values : List V) (x : V) → All (IsValue M) values → map word_of values ≡ word.steps → (enter leave : ℕ) → enter ≡ slice_index word.enters r → leave ≡ slice_index word.leaves k → (found : Option V) → IfSome found (λ y. y ≡ settled M difference values enter leave x) → (IsSome found → AllowsSteps M difference values enter leave x) → IfSome found (λ y. (rest : List (PhaseOf Word)) → AllowsWords M difference word_of rest r k (Some y) → AllowsWords M difference word_of (word ∷ rest) r k (Some x))
    through-words word values x vs written enter leave enters leaves None is allowed = tt
    through-words word values x vs written enter leave enters leaves (Some y) is allowed = λ rest more.
        allows-more word values x y rest vs written
        (subst (λ l. AllowsSteps M difference values (slice_index word.enters r) l x) leaves (subst (λ e. AllowsSteps M difference values e leave x) enters (allowed refl)))
        (is ∙ ap (λ e. settled M difference values e leave x) enters ∙ ap (λ l. settled M difference values (slice_index word.enters r) l x) leaves)
        more
