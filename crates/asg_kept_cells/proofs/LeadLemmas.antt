-- Phases that are known to be admitted.
use Rattle.asg_kept_cells.proofs.Common.{◌≡◌, ℕ, zero, suc, ◌<◌, Bool, true, false, ◌≢◌, List, [], ◌∷◌, map, length, get_or, take, drop, IfSome, Some, None, All, Option, sym, refl, ap, ◌∙◌, subst, arith, take-append-drop, length-map, take-map, IsReduced, Reduced, Monoid, IsValue, IsOrderedMonoid, Word, PhaseOf, phase_of, worded, after_phase, after_phases, AreAdmittedPhases, IsAdmittedPhase, AreAdmittedPhases-front, AreAdmittedFrom, AreReplayed, IsAdmittedFrom, IsFirstBad, admitted-take, phase-once, phases-once, phase-words, unread-words, cell_at}
use Rattle.asg_order.specs.Words.{HasWords}

module _ {V : Type 0} (M : Monoid V) (difference : V → V → V) (word_of : V → Word) (value_of : Word → Option V) (spelled : HasWords M word_of value_of) where
  module _ (side : ℕ) (square : ℕ → ℕ → Option V) (words : PhaseOf Word) (a : IsAdmittedFrom M difference word_of side square words) where
    -- the steps of an admitted phase are those of values
    pub is_read : (is : Bool) → (is ≡ false → (others : List V) → All (IsValue M) others → map word_of others ≢ words.steps) → is ≡ true
    is_read true none = refl
    is_read false none = absurd (unread-words M difference word_of value_of spelled side square words (none refl) a)

    -- and values with these words are its steps
    pub read_phase : (steps : List V) (enters leaves : List ℕ) → All (IsValue M) steps → map word_of steps ≡ words.steps → enters ≡ words.enters → leaves ≡ words.leaves → IsAdmittedPhase M difference side (phase_of steps enters leaves) square
    read_phase steps enters leaves values s e l =
        let is = phase-once M word_of value_of spelled difference side square a.phase (phase_of steps enters leaves) a.admitted values (a.written ∙ sym (phase-words word_of steps enters leaves words s e l)) in
        subst (λ p. IsAdmittedPhase M difference side p square) is a.admitted

  -- each of phases that are admitted in turn is admitted after those before it
  next_after : (side : ℕ) (phases : List (PhaseOf V)) (i : ℕ) (d : PhaseOf Word) (square : ℕ → ℕ → Option V) → AreAdmittedPhases M difference side phases square → i < length phases
      → IsAdmittedFrom M difference word_of side (after_phases M difference (take i phases) square) (get_or (map (worded word_of) phases) i d)
  next_after side [] i d square all below = absurd (omega (arith, below))
  next_after side (p ∷ ps) zero d square all below = record { phase = p; written = refl; admitted = all.0 }
  next_after side (p ∷ ps) (suc i) d square all below = next_after side ps i d (after_phase M difference p square) all.1 (omega (arith, below))

  pub next_admitted : (words : List (PhaseOf Word)) (i : ℕ) (d : PhaseOf Word) (start before : Reduced V) → i < length words → AreReplayed M difference word_of (take i words) start before
      → AreAdmittedFrom M difference word_of start.now.side (cell_at start.now) words → IsAdmittedFrom M difference word_of before.now.side (cell_at before.now) (get_or words i d)
  next_admitted words i d start before below a all =
      let side = start.now.side in
      let square = cell_at start.now in
      let front = AreAdmittedPhases-front M difference side (take i all.phases) (drop i all.phases) square
      (subst (λ phases. AreAdmittedPhases M difference side phases square) (sym (take-append-drop i all.phases)) all.admitted) in
      let same = phases-once M word_of value_of spelled difference side square (take i all.phases) a.phases front a.admitted
      (sym (take-map (worded word_of) i all.phases) ∙ ap (take i) all.written ∙ sym a.written) in
      let there : i < length all.phases = subst (λ n. i < n) (sym (ap length all.written) ∙ length-map all.phases (worded word_of)) below in
      let next = subst (λ ws. IsAdmittedFrom M difference word_of side (after_phases M difference (take i all.phases) square) (get_or ws i d)) all.written
      (next_after side all.phases i d square all.admitted there) in
      let after = subst (λ phases. IsAdmittedFrom M difference word_of side (after_phases M difference phases square) (get_or words i d)) same next in
      subst (λ n. IsAdmittedFrom M difference word_of n (cell_at before.now) (get_or words i d)) (sym a.labels.side)
      (subst (λ cells. IsAdmittedFrom M difference word_of side cells (get_or words i d)) (sym a.cells) after)

-- none of admitted phases is bad, so replaying them leads by all
pub none_bad : {V : Type 0} (M : Monoid V) (difference : V → V → V) (word_of : V → Word) (words : List (PhaseOf Word)) (before after : Reduced V) (found : Option ℕ)
    → AreAdmittedFrom M difference word_of before.now.side (cell_at before.now) words → IfSome found (IsFirstBad M difference word_of before.now.side (cell_at before.now) words) → (found ≡ None → AreReplayed M difference word_of words before after)
    → AreReplayed M difference word_of words before after
none_bad {V} M difference word_of words before after found all bad none = by found refl bad
  where
    by : (o : Option ℕ) → found ≡ o → IfSome o (IsFirstBad M difference word_of before.now.side (cell_at before.now) words) → AreReplayed M difference word_of words before after
    by None e b = none e
    by (Some place) e b = absurd (b.bad (admitted-take M difference word_of before.now.side (cell_at before.now) (suc place) words all))
