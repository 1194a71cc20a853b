-- Phases replayed by their words: the values that words spell, one phase, and one more phase after
-- others.
use Rattle.std.proofs.Common.{◌≡◌, ◌≢◌, ℕ, zero, suc, ◌+◌, ◌<◌, List, [], ◌∷◌, ◌++◌, length, take, map, Option, Some, None, get_or, refl, sym, ap, subst, ◌∙◌, arith}
use Rattle.std.specs.Prelude.{All}
use Rattle.std.proofs.Math.Path.{fun_ext}
use Rattle.std.proofs.lemmas.List.{map-append, take_more}
use Rattle.std.proofs.lemmas.List.Elements.{All-head, All-tail}
use Rattle.asg_order.specs.declared.words.Word.{Word}
use Rattle.asg_order.specs.Monoid.{Monoid, IsValue, IsOrderedMonoid, fold_of}
use Rattle.asg_order.specs.Words.{HasWords}
use Rattle.asg_proof.specs.Phases.{PhaseOf, phase_of, worded, after_phase, after_phases, AreAdmittedPhases, IsAdmittedPhase, index_of}
use Rattle.asg_proof.specs.laws.PhaseLists.{AreAdmittedPhases-back, AreAdmittedPhases-front, AreAdmittedPhases-push, after_phases-push, index_is_value, index_of-push, steps_value}
use Rattle.asg_proof.specs.laws.PhaseSteps.{phase_has_values}
use Rattle.asg_square.specs.Grid.{cell_at}
use Rattle.asg_admit.specs.declared.reduced.Reduced.{Reduced}
use Rattle.asg_admit.specs.Reduced.{IsReduced}
use Rattle.asg_replays.specs.Replays.{AreAdmittedFrom}
use Rattle.asg_replays.specs.Replays.{AreReplayed, IsAdmittedFrom, IsFirstBad, IsReplayed}
use Rattle.asg_replays.specs.laws.PhaseWords.{phase-once, phases-once}
use Rattle.asg_admit.specs.laws.KeptLabels.{chained_labels}

module _ {V : Type 0} (M : Monoid V) (word_of : V → Word) (value_of : Word → Option V) (spelled : HasWords M word_of value_of) where
  -- where a word has no value, the words are those of no values
  pub none_at : (words : List Word) (i : ℕ) (d : Word) → i < length words → value_of (get_or words i d) ≡ None → (values : List V) → All (IsValue M) values → map word_of values ≡ words → ⊥
  none_at [] i d below none values vs same = absurd (omega (arith, below))
  none_at (w ∷ words) i d below none [] vs same = absurd (cc)
  none_at (w ∷ words) zero d below none (x ∷ xs) vs same = (spelled.missing w).0 none x (All-head (IsValue M) x xs vs) (cc)
  none_at (w ∷ words) (suc i) d below none (x ∷ xs) vs same =
      none_at words i d (omega (arith, below)) none xs (All-tail (IsValue M) x xs vs) (cc)

  -- one value more
  pub values-push : (words : List Word) (i : ℕ) (d : Word) (values : List V) (v : V) → i < length words → map word_of values ≡ take i words → value_of (get_or words i d) ≡ Some v → map word_of (values ++ v ∷ []) ≡ take (i + 1) words
  values-push words i d values v below same is =
      map-append word_of values (v ∷ [])
      ∙ ap (λ ws. ws ++ word_of v ∷ []) same
      ∙ ap (λ w. take i words ++ w ∷ []) (spelled.found (get_or words i d) v is).1
      ∙ sym (take_more words i d below)

-- the words of a phase, by its lists
pub phase-words : {V : Type 0} (word_of : V → Word) (steps : List V) (enters leaves : List ℕ) (words : PhaseOf Word) → map word_of steps ≡ words.steps → enters ≡ words.enters → leaves ≡ words.leaves → worded word_of (phase_of steps enters leaves) ≡ words
phase-words word_of steps enters leaves words s e l =
    ap (λ xs. phase_of xs enters leaves) s ∙ ap (λ es. phase_of words.steps es leaves) e ∙ ap (λ ls. phase_of words.steps words.enters ls) l

module _ {V : Type 0} (M : Monoid V) (laws : IsOrderedMonoid M) (difference : V → V → V) (word_of : V → Word) where
  -- no phases lead from a reduced square to itself
  pub replayed-none : (reduced : Reduced V) → IsReduced M reduced → AreReplayed M difference word_of [] reduced reduced
  replayed-none reduced is = record {
    phases = [];
    written = refl;
    admitted = tt;
    labels = record { side = refl; rows = refl; row_labels = refl; column_labels = refl };
    cells = refl;
    index = sym (laws.commutative reduced.index M.unit is.index laws.unit_is_value ∙ laws.unit_neutral reduced.index is.index);
    reduced = is;
  }

  -- one phase more
  pub replayed-push : (words : List (PhaseOf Word)) (i : ℕ) (d : PhaseOf Word) (start before after : Reduced V) → i < length words → IsReduced M start → AreReplayed M difference word_of (take i words) start before
      → IsReplayed M difference word_of (get_or words i d) before after → AreReplayed M difference word_of (take (i + 1) words) start after
  replayed-push words i d start before after below is a one =
      let phase = one.first.phase in
      let square = after_phases M difference a.phases (cell_at start.now) in
      let admitted : IsAdmittedPhase M difference start.now.side phase square =
      subst (λ side. IsAdmittedPhase M difference side phase square) a.labels.side (subst (IsAdmittedPhase M difference before.now.side phase) a.cells one.first.admitted) in
      record {
        phases = a.phases ++ phase ∷ [];
        written = map-append (worded word_of) a.phases (phase ∷ [])
            ∙ ap (λ ws. ws ++ worded word_of phase ∷ []) a.written
            ∙ ap (λ w. take i words ++ w ∷ []) one.first.written
            ∙ sym (take_more words i d below);
        admitted = AreAdmittedPhases-push M difference start.now.side a.phases phase (cell_at start.now) a.admitted admitted;
        labels = chained_labels start.now before.now after.now a.labels one.leads.labels;
        cells = fun_ext (λ r. fun_ext (λ k. one.leads.cells r k))
            ∙ ap (after_phase M difference phase) a.cells
            ∙ sym (after_phases-push M difference a.phases phase (cell_at start.now));
        index = one.leads.index
            ∙ ap (λ z. M.product z (fold_of M phase.steps)) a.index
            ∙ laws.associative start.index (index_of M a.phases) (fold_of M phase.steps) is.index (index_is_value M laws difference start.now.side a.phases (cell_at start.now) a.admitted) (steps_value M laws difference start.now.side phase square admitted)
            ∙ ap (M.product start.index) (sym (index_of-push M laws difference start.now.side a.phases phase (cell_at start.now) a.admitted admitted));
        reduced = one.leads.reduced;
      }

-- a list that is mapped to one with a last member has a last one
split_last : {A B : Type 0} (f : A → B) (xs : List A) (ys : List B) (y : B) → map f xs ≡ ys ++ y ∷ [] → (front : List A) × (x : A) × (xs ≡ front ++ x ∷ []) × (map f front ≡ ys) × (f x ≡ y)
split_last f [] [] y same = absurd (cc)
split_last f [] (z ∷ ys) y same = absurd (cc)
split_last f (x ∷ []) [] y same = ([], x, refl, refl, cc)
split_last f (x ∷ (next ∷ xs)) [] y same = absurd (cc)
split_last f (x ∷ xs) (z ∷ ys) y same =
    let head : f x ≡ z = cc in
    let rest : map f xs ≡ ys ++ y ∷ [] = cc in
    let more = split_last f xs ys y rest in
    let shape = more.2 in
    let front = more.3 in
    (x ∷ more.0, more.1, ap (λ l. x ∷ l) shape, ap (λ b. b ∷ map f more.0) head ∙ ap (λ bs. z ∷ bs) front, more.4)

module _ {V : Type 0} (M : Monoid V) (difference : V → V → V) (word_of : V → Word) (value_of : Word → Option V) (spelled : HasWords M word_of value_of) where
  -- where the phases so far are admitted and the next isn't after them, those up to it aren't
  refused-push : (words : List (PhaseOf Word)) (i : ℕ) (d : PhaseOf Word) (start before : Reduced V) → i < length words → AreReplayed M difference word_of (take i words) start before
      → ¬ IsAdmittedFrom M difference word_of before.now.side (cell_at before.now) (get_or words i d) → ¬ AreAdmittedFrom M difference word_of start.now.side (cell_at start.now) (take (i + 1) words)
  refused-push words i d start before below a refused b =
      let side = start.now.side in
      let square = cell_at start.now in
      let s = split_last (worded word_of) b.phases (take i words) (get_or words i d) (b.written ∙ take_more words i d below) in
      let all = subst (λ phases. AreAdmittedPhases M difference side phases square) s.2 b.admitted in
      let front = AreAdmittedPhases-front M difference side s.0 (s.1 ∷ []) square all in
      let back = AreAdmittedPhases-back M difference side s.0 (s.1 ∷ []) square all in
      let same = phases-once M word_of value_of spelled difference side square s.0 a.phases front a.admitted (s.3 ∙ sym a.written) in
      let at_start = subst (λ phases. IsAdmittedPhase M difference side s.1 (after_phases M difference phases square)) same back.0 in
      let at_before = subst (IsAdmittedPhase M difference side s.1) (sym a.cells) at_start in
      refused (record { phase = s.1; written = s.4; admitted = subst (λ n. IsAdmittedPhase M difference n s.1 (cell_at before.now)) (sym a.labels.side) at_before })

  -- then the next is the first bad one
  pub first-bad : (words : List (PhaseOf Word)) (i : ℕ) (d : PhaseOf Word) (start before : Reduced V) → i < length words → AreReplayed M difference word_of (take i words) start before
      → ¬ IsAdmittedFrom M difference word_of before.now.side (cell_at before.now) (get_or words i d) → IsFirstBad M difference word_of start.now.side (cell_at start.now) words i
  first-bad words i d start before below a refused = record {
    there = below;
    before = record { phases = a.phases; written = a.written; admitted = a.admitted };
    bad = subst (λ n. ¬ AreAdmittedFrom M difference word_of start.now.side (cell_at start.now) (take n words)) (let more : i + 1 ≡ suc i = omega arith in more) (refused-push words i d start before below a refused);
  }

module _ {V : Type 0} (M : Monoid V) (difference : V → V → V) (word_of : V → Word) (value_of : Word → Option V) (spelled : HasWords M word_of value_of) (side : ℕ) (square : ℕ → ℕ → Option V) where
  -- where a phase isn't admitted, no other with the same words is
  pub refused-words : (words : PhaseOf Word) (phase : PhaseOf V) → All (IsValue M) phase.steps → worded word_of phase ≡ words → ¬ IsAdmittedPhase M difference side phase square → ¬ IsAdmittedFrom M difference word_of side square words
  refused-words words phase values written refused a =
      let is = phase-once M word_of value_of spelled difference side square a.phase phase a.admitted values (a.written ∙ sym written) in
      refused (subst (λ p. IsAdmittedPhase M difference side p square) is a.admitted)

  -- where the steps of a phase are no values, no phase has the words
  pub unread-words : (words : PhaseOf Word) → ((values : List V) → All (IsValue M) values → map word_of values ≢ words.steps) → ¬ IsAdmittedFrom M difference word_of side square words
  unread-words words none a = none a.phase.steps (phase_has_values M difference side a.phase square a.admitted) (ap (λ p. p.steps) a.written)
