-- Phases that are admitted from a square are admitted from another as far as the cells that differ
-- allow them.
use Rattle.std.proofs.Common.{◌≡◌, ◌⊎◌, ℕ, zero, suc, ◌<◌, ◌≤◌, List, [], ◌∷◌, length, take, Option, Some, refl, sym, ◌∙◌, ap, subst, arith, ⊎_elim, inl, inr}
use Rattle.std.specs.Prelude.{slice_index}
use Rattle.std.specs.Option.{option_map}
use Rattle.std.proofs.lemmas.Bool.{cases_lt, le-leb, lt-ltb, leb-true, ltb-true}
use Rattle.std.proofs.lemmas.List.{take_all}
use Rattle.asg_order.specs.Monoid.{Monoid, IsLe}
use Rattle.asg_proof.specs.Phases.{PhaseOf, after_phase, after_phases, IsAdmittedPhase, AreAdmittedPhases}
use Rattle.asg_proof.specs.laws.Stepped.{option_map_cases}
use Rattle.asg_admit.specs.Admission.{AllowsAt}
use Rattle.asg_admit.specs.Settled.{step_of, cell_after}
use Rattle.asg_admit.specs.laws.SettledCells.{square_after-cell, after_phase-cell}
use Rattle.asg_admit.specs.KeptCells.{cell_settled, cell_after_phases, AllowsPhases, AllowsOrStays, SomeRefuses}
use Rattle.asg_proof.specs.KeptPhases.{AreKept}

module _ {V : Type 0} (M : Monoid V) (difference : V → V → V) where
  -- a cell after phases is told by itself
  pub after_phases-cell : (phases : List (PhaseOf V)) (square : ℕ → ℕ → Option V) (r k : ℕ) → after_phases M difference phases square r k ≡ cell_after_phases M difference phases r k (square r k)
  after_phases-cell [] square r k = refl
  after_phases-cell (phase ∷ rest) square r k =
      after_phases-cell rest (after_phase M difference phase square) r k
      ∙ ap (cell_after_phases M difference rest r k) (after_phase-cell M difference phase square r k)

  abbrev at : PhaseOf V → ℕ → ℕ → ℕ → V → V
  at phase t r k x = cell_after M difference (step_of M phase.steps) (slice_index phase.enters r) (slice_index phase.leaves k) x t

  abbrev Allows : PhaseOf V → ℕ → ℕ → Option V → Type 0
  Allows phase r k cell = AllowsAt M difference phase.steps (slice_index phase.enters r) (slice_index phase.leaves k) cell

  module _ (side : ℕ) where
    -- the cells of a square allow a phase that is admitted from it
    phase_allowed : (phase : PhaseOf V) (square : ℕ → ℕ → Option V) (r k : ℕ) → r < side → k < side → IsAdmittedPhase M difference side phase square → Allows phase r k (square r k)
    phase_allowed phase square r k hr hk one x is t below entered stays =
        (one.admitted t below).least r k (at phase t r k x) hr hk (le-leb (slice_index phase.enters r) t entered) (lt-ltb t (slice_index phase.leaves k) stays)
        (square_after-cell M difference phase square t r k ∙ ap (option_map (at phase t r k)) is)

    pub phases_allowed : (phases : List (PhaseOf V)) (square : ℕ → ℕ → Option V) (r k : ℕ) → r < side → k < side → AreAdmittedPhases M difference side phases square → AllowsPhases M difference phases r k (square r k)
    phases_allowed [] square r k hr hk all = tt
    phases_allowed (phase ∷ rest) square r k hr hk all = (
      phase_allowed phase square r k hr hk all.0,
      subst (AllowsPhases M difference rest r k) (after_phase-cell M difference phase square r k)
          (phases_allowed rest (after_phase M difference phase square) r k hr hk all.1),
    )

    -- a phase is admitted where each cell allows it or is that of a square from which it is
    -- admitted
    phase_admitted : (phase : PhaseOf V) (before after : ℕ → ℕ → Option V) → IsAdmittedPhase M difference side phase before → ((r k : ℕ) → r < side → k < side → Allows phase r k (after r k) ⊎ (after r k ≡ before r k)) → IsAdmittedPhase M difference side phase after
    phase_admitted phase before after one each = record {
      rows = one.rows;
      columns = one.columns;
      admitted = λ t h. record {
        value = (one.admitted t h).value;
        count = (one.admitted t h).count;
        least = λ r k x hr hk entered stays is.
            let now = sym (square_after-cell M difference phase after t r k) ∙ is in
            ⊎_elim
            (λ (allows : Allows phase r k (after r k)).
            let found = option_map_cases (at phase t r k) (after r k) x now in
            subst (IsLe M (step_of M phase.steps t)) found.2
            (allows found.0 found.1 t h (leb-true (slice_index phase.enters r) t entered) (ltb-true t (slice_index phase.leaves k) stays)))
            (λ (same : after r k ≡ before r k).
            (one.admitted t h).least r k x hr hk entered stays
            (square_after-cell M difference phase before t r k ∙ ap (option_map (at phase t r k)) (sym same) ∙ now))
            (each r k hr hk);
      };
    }

    allows_first : (phase : PhaseOf V) (rest : List (PhaseOf V)) (before after : ℕ → ℕ → Option V) (r k : ℕ) → AllowsPhases M difference (phase ∷ rest) r k (after r k) ⊎ (after r k ≡ before r k) → Allows phase r k (after r k) ⊎ (after r k ≡ before r k)
    allows_first phase rest before after r k (inl allows) = inl allows.0
    allows_first phase rest before after r k (inr same) = inr same

    allows_rest : (phase : PhaseOf V) (rest : List (PhaseOf V)) (before after : ℕ → ℕ → Option V) (r k : ℕ) → AllowsPhases M difference (phase ∷ rest) r k (after r k) ⊎ (after r k ≡ before r k) → AllowsPhases M difference rest r k (after_phase M difference phase after r k) ⊎ (after_phase M difference phase after r k ≡ after_phase M difference phase before r k)
    allows_rest phase rest before after r k (inl allows) =
        inl (subst (AllowsPhases M difference rest r k) (sym (after_phase-cell M difference phase after r k)) allows.1)
    allows_rest phase rest before after r k (inr same) =
        inr (after_phase-cell M difference phase after r k ∙ ap (cell_settled M difference phase r k) same ∙ sym (after_phase-cell M difference phase before r k))

    -- so are phases, one after the other
    pub phases_admitted : (phases : List (PhaseOf V)) (before after : ℕ → ℕ → Option V) → AreAdmittedPhases M difference side phases before → AllowsOrStays M difference side phases before after → AreAdmittedPhases M difference side phases after
    phases_admitted [] before after all each = tt
    phases_admitted (phase ∷ rest) before after all each = (
      phase_admitted phase before after all.0 (λ r k hr hk. allows_first phase rest before after r k (each r k hr hk)),
      phases_admitted rest (after_phase M difference phase before) (after_phase M difference phase after) all.1
          (λ r k hr hk. allows_rest phase rest before after r k (each r k hr hk)),
    )

    -- a shorter prefix of an admitted prefix is admitted
    pub fewer_admitted : (phases : List (PhaseOf V)) (square : ℕ → ℕ → Option V) (n m : ℕ) → n ≤ m → AreAdmittedPhases M difference side (take m phases) square → AreAdmittedPhases M difference side (take n phases) square
    fewer_admitted phases square zero m h all = tt
    fewer_admitted phases square (suc n) zero h all = absurd (omega (arith, h))
    fewer_admitted [] square (suc n) (suc m) h all = tt
    fewer_admitted (phase ∷ rest) square (suc n) (suc m) h all =
        (all.0, fewer_admitted rest (after_phase M difference phase square) n m (omega (arith, h)) all.1)

    pub all_taken : (phases : List (PhaseOf V)) (square : ℕ → ℕ → Option V) → AreAdmittedPhases M difference side phases square → AreAdmittedPhases M difference side (take (length phases) phases) square
    all_taken phases square all =
        subst (λ list. AreAdmittedPhases M difference side list square) (sym (take_all (length phases) phases (omega arith))) all

    pub kept_so_many : (phases : List (PhaseOf V)) (before after : ℕ → ℕ → Option V) (n : ℕ) → AreAdmittedPhases M difference side phases before → n ≤ length phases → AllowsOrStays M difference side (take n phases) before after → (n < length phases → SomeRefuses M difference side (take (suc n) phases) after) → AreKept M difference side phases after n
    kept_so_many phases before after n all within each refuses = record {
      within = within;
      admitted = phases_admitted (take n phases) before after (fewer_admitted phases before n (length phases) within (all_taken phases before all)) each;
      longest = λ m few admitted.
          ⊎_elim
          (λ (more : n < m).
          let no = refuses (omega (arith, more, few)) in
          absurd (no.4 (phases_allowed (take (suc n) phases) after no.0 no.1 no.2 no.3 (fewer_admitted phases after (suc n) m (omega (arith, more)) admitted))))
          (λ (h : m ≤ n). h)
          (cases_lt n m);
    }

    -- where all phases are admitted, all are kept
    pub kept_all : (phases : List (PhaseOf V)) (square : ℕ → ℕ → Option V) → AreAdmittedPhases M difference side phases square → AreKept M difference side phases square (length phases)
    kept_all phases square all = record {
      within = omega arith;
      admitted = all_taken phases square all;
      longest = λ m few admitted. few;
    }

    -- only one number of phases is kept
    pub kept_once : (phases : List (PhaseOf V)) (square : ℕ → ℕ → Option V) (n i : ℕ) → AreKept M difference side phases square n → AreKept M difference side phases square i → i ≡ n
    kept_once phases square n i one other =
        let a = one.longest i other.within other.admitted in
        let b = other.longest n one.within one.admitted in
        omega (arith, a, b)
