-- Phases of sums that are cut: the last phase loses its last steps, and the last of those left is
-- lessened.
use Rattle.asg_proof.proofs.Common.{◌≡◌, ℕ, zero, suc, ◌+◌, ◌<◌, ◌≤◌, Bool, List, [], ◌∷◌, ◌++◌, length, get_or, take, Option, sym, refl, ap, ◌∙◌, subst, ⊎_elim, arith, length-take, get_or-take, get_or-append-add, le-leb, leb-true, cases_lt, get_or_append_left, bounded_sums, bounded_difference, PhaseOf, entered_at, staying_at, square_after, after_phases, IsAdmittedPhase, AreAdmittedPhases, cut_phase, stepped, IsAdmittedStep, AreAdmittedPhases-front, AreAdmittedPhases-back, AreAdmittedPhases-push}
use Rattle.std.proofs.lemmas.List.{length-append}

module _ (top side : ℕ) (phase : PhaseOf ℕ) (n c : ℕ) (below : n < length phase.steps) (less : c ≤ get_or phase.steps n 0) (square : ℕ → ℕ → Option ℕ) where
  abbrev cut : PhaseOf ℕ
  cut = cut_phase phase n c

  taken : length (take n phase.steps) ≡ n
  taken = omega (arith, length-take n phase.steps, below)

  step_same : (t : ℕ) → t < n → get_or cut.steps t 0 ≡ get_or phase.steps t 0
  step_same t h = get_or_append_left (take n phase.steps) (c ∷ []) 0 t (omega (arith, h, taken)) ∙ get_or-take n phase.steps t 0 h

  step_cut : get_or cut.steps n 0 ≡ c
  step_cut =
      ap (λ i. get_or cut.steps i 0) (let e : n ≡ length (take n phase.steps) + 0 = omega (arith, taken) in e)
      ∙ get_or-append-add (take n phase.steps) (c ∷ []) 0 0

  after_same : (t : ℕ) → t ≤ n → square_after (bounded_sums top) bounded_difference cut square t ≡ square_after (bounded_sums top) bounded_difference phase square t
  after_same zero h = refl
  after_same (suc t) h =
      ap (stepped (bounded_sums top) bounded_difference (entered_at phase.enters t) (staying_at phase.leaves t) (get_or cut.steps t 0)) (after_same t (omega (arith, h)))
      ∙ ap (λ d. stepped (bounded_sums top) bounded_difference (entered_at phase.enters t) (staying_at phase.leaves t) d (square_after (bounded_sums top) bounded_difference phase square t)) (step_same t (omega (arith, h)))

  -- a step that is admitted is so where it is lessened
  lessened : (entered staying : ℕ → Bool) (d : ℕ) (cells : ℕ → ℕ → Option ℕ) → c ≤ d → IsAdmittedStep (bounded_sums top) side entered staying d cells → IsAdmittedStep (bounded_sums top) side entered staying c cells
  lessened entered staying d cells few admitted = record {
    value = let v : d ≤ top = leb-true d top admitted.value in le-leb c top (omega (arith, v, few));
    count = admitted.count;
    least = λ r k x hr hk e s at. let v : d ≤ x = leb-true d x (admitted.least r k x hr hk e s at) in le-leb c x (omega (arith, v, few));
  }

  -- a phase that is admitted is so where it is cut
  pub cut_admitted : IsAdmittedPhase (bounded_sums top) bounded_difference side phase square → IsAdmittedPhase (bounded_sums top) bounded_difference side cut square
  cut_admitted one = record {
    rows = one.rows;
    columns = one.columns;
    admitted = λ t h.
        let within : t ≤ n = omega (arith, h, length-append (take n phase.steps) (c ∷ []), taken) in
        let was = one.admitted t (omega (arith, within, below)) in
        let cells = square_after (bounded_sums top) bounded_difference phase square t in
        subst (λ q. IsAdmittedStep (bounded_sums top) side (entered_at phase.enters t) (staying_at phase.leaves t) (get_or cut.steps t 0) q) (sym (after_same t within))
        (⊎_elim
        (λ (earlier : t < n). subst (λ d. IsAdmittedStep (bounded_sums top) side (entered_at phase.enters t) (staying_at phase.leaves t) d cells) (sym (step_same t earlier)) was)
        (λ (late : n ≤ t).
        let same : n ≡ t = omega (arith, within, late) in
        let now : get_or cut.steps t 0 ≡ c = ap (λ i. get_or cut.steps i 0) (sym same) ∙ step_cut in
        let few : c ≤ get_or phase.steps t 0 = subst (λ i. c ≤ get_or phase.steps i 0) same less in
        subst (λ d. IsAdmittedStep (bounded_sums top) side (entered_at phase.enters t) (staying_at phase.leaves t) d cells) (sym now)
        (lessened (entered_at phase.enters t) (staying_at phase.leaves t) (get_or phase.steps t 0) cells few was))
        (cases_lt t n));
  }

-- phases that are admitted in turn are so where they end with a phase that is cut
pub cut_phases : (top side : ℕ) (before after : List (PhaseOf ℕ)) (phase : PhaseOf ℕ) (n c : ℕ) (square : ℕ → ℕ → Option ℕ) → n < length phase.steps → c ≤ get_or phase.steps n 0
    → AreAdmittedPhases (bounded_sums top) bounded_difference side (before ++ phase ∷ after) square
    → AreAdmittedPhases (bounded_sums top) bounded_difference side (before ++ cut_phase phase n c ∷ []) square
cut_phases top side before after phase n c square below less all =
    let M = bounded_sums top in
    let front = AreAdmittedPhases-front M bounded_difference side before (phase ∷ after) square all in
    let back = AreAdmittedPhases-back M bounded_difference side before (phase ∷ after) square all in
    AreAdmittedPhases-push M bounded_difference side before (cut_phase phase n c) square front
    (cut_admitted top side phase n c below less (after_phases M bounded_difference before square) back.0)
