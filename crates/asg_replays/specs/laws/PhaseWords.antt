-- Phases and their words: the words of admitted phases are those of no others, and whether words
-- are those of admitted phases is decided.
use mathlib.Core.Logic.Dec.{and, of_iff}
use Rattle.std.proofs.Common.{◌≡◌, ℕ, zero, suc, ◌+◌, ◌<◌, ◌≤◌, Bool, true, List, [], ◌∷◌, length, take, drop, map, Option, Some, None, refl, sym, ap, subst, ◌∙◌, arith}
use Rattle.std.specs.Prelude.{All, slice_index_or}
use Rattle.std.proofs.Math.Bool.{Bool-discrete}
use Rattle.std.proofs.Math.Decide.{ℕ_discrete}
use Rattle.std.proofs.lemmas.List.{take-append-drop, take-map}
use Rattle.std.proofs.lemmas.List.Elements.{All-cons, All-head, All-nil, All-tail}
use Rattle.std.proofs.lemmas.Option.{same_Some}
use Rattle.asg_order.specs.declared.words.Word.{Word}
use Rattle.asg_order.specs.Monoid.{Monoid, IsValue, IsLe}
use Rattle.asg_order.specs.Words.{HasWords}
use Rattle.asg_proof.specs.Phases.{PhaseOf, phase_of, worded, entered_at, staying_at, square_after, after_phase, IsAdmittedPhase, AreAdmittedPhases}
use Rattle.asg_proof.specs.Steps.{IsAdmittedStep, count_below}
use Rattle.asg_proof.specs.laws.PhaseLists.{AreAdmittedPhases-front}
use Rattle.asg_proof.specs.laws.PhaseSteps.{phase_has_values}
use Rattle.asg_replays.specs.Replays.{AreAdmittedFrom}
use Rattle.asg_model.specs.laws.Tests.{dec_below}

-- ---- finite tests

dec_implies : {A B : Type 0} → Dec A → Dec B → Dec (A → B)
dec_implies (no none) b = yes (λ x. absurd (none x))
dec_implies (yes x) (yes y) = yes (λ _. y)
dec_implies (yes x) (no none) = no (λ f. none (f x))

dec_present : {V : Type 0} (P : V → Type 0) → ((x : V) → Dec (P x)) → (o : Option V) → Dec ((x : V) → o ≡ Some x → P x)
dec_present P each None = yes (λ x e. absurd (cc))
dec_present P each (Some y) = of_iff (λ p x e. subst P (same_Some y x e) p, λ all. all y refl) (each y)

-- ---- over a monoid

module _ {V : Type 0} (M : Monoid V) (difference : V → V → V) (side : ℕ) where
  dec_step : (entered staying : ℕ → Bool) (c : V) (square : ℕ → ℕ → Option V) → Dec (IsAdmittedStep M side entered staying c square)
  dec_step entered staying c square =
      let At : ℕ → ℕ → Type 0 = λ r k. entered r ≡ true → staying k ≡ true → (x : V) → square r k ≡ Some x → IsLe M c x in
      let dec_at : (r k : ℕ) → Dec (At r k) = λ r k. dec_implies (Bool-discrete (entered r) true) (dec_implies (Bool-discrete (staying k) true) (dec_present (IsLe M c) (λ x. Bool-discrete (M.is_le c x) true) (square r k))) in
      let Row : ℕ → Type 0 = λ r. (k : ℕ) → k < side → At r k in
      of_iff (
        λ parts. record { value = parts.0; count = parts.1.0; least = λ r k x hr hk e s at. parts.1.1 r hr k hk e s x at },
        λ step. (step.value, (step.count, (λ r hr k hk e s x at. step.least r k x hr hk e s at))),
      )
      (and (Bool-discrete (M.is_value c) true) (and (ℕ_discrete (count_below entered side + count_below staying side) (side + 1)) (dec_below Row (λ r. dec_below (At r) (dec_at r) side) side)))

  dec_phase : (phase : PhaseOf V) (square : ℕ → ℕ → Option V) → Dec (IsAdmittedPhase M difference side phase square)
  dec_phase phase square =
      let Step : ℕ → Type 0 = λ t. IsAdmittedStep M side (entered_at phase.enters t) (staying_at phase.leaves t) (slice_index_or phase.steps t M.unit) (square_after M difference phase square t) in
      of_iff (
        λ parts. record { rows = parts.0; columns = parts.1.0; admitted = parts.1.1 },
        λ one. (one.rows, (one.columns, one.admitted)),
      )
      (and (ℕ_discrete (length phase.enters) side) (and (ℕ_discrete (length phase.leaves) side) (dec_below Step (λ t. dec_step (entered_at phase.enters t) (staying_at phase.leaves t) (slice_index_or phase.steps t M.unit) (square_after M difference phase square t)) (length phase.steps))))

-- ---- values and their words

module _ {V : Type 0} (M : Monoid V) (word_of : V → Word) (value_of : Word → Option V) (spelled : HasWords M word_of value_of) where
  value-once : (x y : V) → IsValue M x → IsValue M y → word_of x ≡ word_of y → x ≡ y
  value-once x y vx vy same = same_Some x y (sym (spelled.read_back x vx) ∙ ap value_of same ∙ spelled.read_back y vy)

  -- values with the same words are the same
  pub values-once : (xs ys : List V) → All (IsValue M) xs → All (IsValue M) ys → map word_of xs ≡ map word_of ys → xs ≡ ys
  values-once [] [] vxs vys same = refl
  values-once [] (y ∷ ys) vxs vys same = absurd (cc)
  values-once (x ∷ xs) [] vxs vys same = absurd (cc)
  values-once (x ∷ xs) (y ∷ ys) vxs vys same =
      let head : word_of x ≡ word_of y = cc in
      let rest : map word_of xs ≡ map word_of ys = cc in
      let first = value-once x y (All-head (IsValue M) x xs vxs) (All-head (IsValue M) y ys vys) head in
      let more = values-once xs ys (All-tail (IsValue M) x xs vxs) (All-tail (IsValue M) y ys vys) rest in cc

  abbrev HasValuesOf : List Word → Type 0
  HasValuesOf words = (values : List V) × All (IsValue M) values × (map word_of values ≡ words)

  -- words are those of values, or not
  dec_values : (words : List Word) → Dec (HasValuesOf words)
  dec_values [] = yes ([], All-nil (IsValue M), refl)
  dec_values (w ∷ words) = by (value_of w) refl (dec_values words)
    where
      by : (o : Option V) → value_of w ≡ o → Dec (HasValuesOf words) → Dec (HasValuesOf (w ∷ words))
      by None is more = no (λ all. none all.0 all.1 all.2)
        where
          none : (values : List V) → All (IsValue M) values → map word_of values ≡ w ∷ words → ⊥
          none [] vs same = absurd (cc)
          none (x ∷ xs) vs same = (spelled.missing w).0 is x (All-head (IsValue M) x xs vs) (cc)
      by (Some x) is (yes more) = yes (x ∷ more.0, All-cons (IsValue M) x more.0 (spelled.found w x is).0 more.1, (let head = (spelled.found w x is).1 in let rest = more.2 in cc))
      by (Some x) is (no more) = no (λ all. none all.0 all.1 all.2)
        where
          none : (values : List V) → All (IsValue M) values → map word_of values ≡ w ∷ words → ⊥
          none [] vs same = absurd (cc)
          none (y ∷ ys) vs same = more (ys, All-tail (IsValue M) y ys vs, cc)

  module _ (difference : V → V → V) (side : ℕ) where
    -- admitted phases with the same words are the same
    pub phase-once : (square : ℕ → ℕ → Option V) (phase other : PhaseOf V) → IsAdmittedPhase M difference side phase square → All (IsValue M) other.steps → worded word_of phase ≡ worded word_of other → phase ≡ other
    phase-once square phase other one values same =
        let steps = values-once phase.steps other.steps (phase_has_values M difference side phase square one) values (ap (λ p. p.steps) same) in
        ap (λ xs. phase_of xs phase.enters phase.leaves) steps
        ∙ ap (λ es. phase_of other.steps es phase.leaves) (ap (λ p. p.enters) same)
        ∙ ap (λ ls. phase_of other.steps other.enters ls) (ap (λ p. p.leaves) same)

    pub phases-once : (square : ℕ → ℕ → Option V) (phases others : List (PhaseOf V)) → AreAdmittedPhases M difference side phases square → AreAdmittedPhases M difference side others square → map (worded word_of) phases ≡ map (worded word_of) others → phases ≡ others
    phases-once square [] [] all alls same = refl
    phases-once square [] (q ∷ qs) all alls same = absurd (cc)
    phases-once square (p ∷ ps) [] all alls same = absurd (cc)
    phases-once square (p ∷ ps) (q ∷ qs) all alls same =
        let head : worded word_of p ≡ worded word_of q = cc in
        let rest : map (worded word_of) ps ≡ map (worded word_of) qs = cc in
        let first : p ≡ q = phase-once square p q all.0 (phase_has_values M difference side q square alls.0) head in
        let more = phases-once (after_phase M difference q square) ps qs (subst (λ r. AreAdmittedPhases M difference side ps (after_phase M difference r square)) first all.1) alls.1 rest in
        ap (λ r. r ∷ ps) first ∙ ap (λ rs. q ∷ rs) more

    abbrev Admits : (ℕ → ℕ → Option V) → List (PhaseOf Word) → Type 0
    Admits square words = AreAdmittedFrom M difference word_of side square words

    -- whether words are those of admitted phases is decided
    pub dec_admitted : (square : ℕ → ℕ → Option V) (words : List (PhaseOf Word)) → Dec (Admits square words)
    dec_admitted square [] = yes (record { phases = []; written = refl; admitted = tt })
    dec_admitted square (w ∷ words) = by (λ after. dec_admitted after words) (dec_values w.steps)
      where
        -- the first phase of admitted ones
        first_of : (phases : List (PhaseOf V)) → map (worded word_of) phases ≡ w ∷ words → AreAdmittedPhases M difference side phases square
            → (p : PhaseOf V) × (worded word_of p ≡ w) × IsAdmittedPhase M difference side p square × Admits (after_phase M difference p square) words
        first_of [] same all = absurd (cc)
        first_of (p ∷ ps) same all = (p, cc, all.0, record { phases = ps; written = cc; admitted = all.1 })

        split : (a : Admits square (w ∷ words)) → (p : PhaseOf V) × (worded word_of p ≡ w) × IsAdmittedPhase M difference side p square × Admits (after_phase M difference p square) words
        split a = first_of a.phases a.written a.admitted

        phase : List V → PhaseOf V
        phase values = phase_of values w.enters w.leaves

        spells : (values : List V) → map word_of values ≡ w.steps → worded word_of (phase values) ≡ w
        spells values same = ap (λ steps. phase_of steps w.enters w.leaves) same

        rest : (values : List V) → All (IsValue M) values → map word_of values ≡ w.steps → IsAdmittedPhase M difference side (phase values) square → Dec (Admits (after_phase M difference (phase values) square) words) → Dec (Admits square (w ∷ words))
        rest values vs same one (yes more) =
            let head = spells values same in
            let tail = more.written in
            yes (record { phases = phase values ∷ more.phases; written = ap (λ p. p ∷ map (worded word_of) more.phases) head ∙ ap (λ ps. w ∷ ps) tail; admitted = (one, more.admitted) })
        rest values vs same one (no more) = no (λ a.
            let s = split a in
            let is = phase-once square s.0 (phase values) s.2 vs (s.1 ∙ sym (spells values same)) in
            more (subst (λ p. Admits (after_phase M difference p square) words) is s.3))

        with_phase : ((after : ℕ → ℕ → Option V) → Dec (Admits after words)) → (values : List V) → All (IsValue M) values → map word_of values ≡ w.steps → Dec (IsAdmittedPhase M difference side (phase values) square) → Dec (Admits square (w ∷ words))
        with_phase later values vs same (yes one) = rest values vs same one (later (after_phase M difference (phase values) square))
        with_phase later values vs same (no none) = no (λ a.
            let s = split a in
            let is = phase-once square s.0 (phase values) s.2 vs (s.1 ∙ sym (spells values same)) in
            none (subst (λ p. IsAdmittedPhase M difference side p square) is s.2))

        by : ((after : ℕ → ℕ → Option V) → Dec (Admits after words)) → Dec (HasValuesOf w.steps) → Dec (Admits square (w ∷ words))
        by later (yes values) = with_phase later values.0 values.1 values.2 (dec_phase M difference side (phase values.0) square)
        by later (no none) = no (λ a. let s = split a in none (s.0.steps, phase_has_values M difference side s.0 square s.2, ap (λ p. p.steps) s.1))

module _ {V : Type 0} (M : Monoid V) (difference : V → V → V) (word_of : V → Word) (side : ℕ) (square : ℕ → ℕ → Option V) where
  -- the first of admitted phases are admitted
  pub admitted-take : (n : ℕ) (words : List (PhaseOf Word)) → AreAdmittedFrom M difference word_of side square words → AreAdmittedFrom M difference word_of side square (take n words)
  admitted-take n words a = record {
    phases = take n a.phases;
    written = sym (take-map (worded word_of) n a.phases) ∙ ap (take n) a.written;
    admitted = AreAdmittedPhases-front M difference side (take n a.phases) (drop n a.phases) square
        (subst (λ phases. AreAdmittedPhases M difference side phases square) (sym (take-append-drop n a.phases)) a.admitted);
  }

-- the first of the first
pub take-take : {A : Type 0} (m n : ℕ) (xs : List A) → m ≤ n → take m (take n xs) ≡ take m xs
take-take zero n xs less = refl
take-take (suc m) zero xs less = absurd (omega arith)
take-take (suc m) (suc n) [] less = refl
take-take (suc m) (suc n) (x ∷ xs) less = ap (λ ys. x ∷ ys) (take-take m n xs (omega arith))
