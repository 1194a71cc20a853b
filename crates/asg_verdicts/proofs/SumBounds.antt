-- Phases of sums that are looked at up to a bound, and where those of an objective stop.
use Rattle.asg_verdicts.proofs.Common.{◌≡◌, ℕ, ◌<◌, ◌≤◌, List, Option, ◌∙◌, arith, ⊎_elim, cases_lt, bounded_sums, bounded_difference, plain_word, Word, PhaseOf, AreAdmittedPhases, index_of, HaveIndex}
use Rattle.asg_replays.specs.WholeLists.{AreTotalsOf}
use Rattle.asg_phase_totals.specs.PhaseTotals.{AreTotals, Totals}

-- phases that come to totals with which they are admitted by sums that stop at a bound or above have the
-- sum of the totals as their index by those that stop at this top, if it isn't above it
pub index_within : (bound top side : ℕ) (square : ℕ → ℕ → Option ℕ) (words : List (PhaseOf Word)) (totals : Totals)
    → ((low high side : ℕ) (phases : List (PhaseOf ℕ)) (square : ℕ → ℕ → Option ℕ) → low < high → index_of (bounded_sums high) phases ≤ low → AreAdmittedPhases (bounded_sums high) bounded_difference side phases square → AreAdmittedPhases (bounded_sums low) bounded_difference side phases square)
    → ((low high : ℕ) (phases : List (PhaseOf ℕ)) → low < high → index_of (bounded_sums high) phases ≤ low → index_of (bounded_sums low) phases ≡ index_of (bounded_sums high) phases)
    → AreTotalsOf words totals
    → ((high : ℕ) (phases : List (PhaseOf ℕ)) → bound ≤ high → AreTotals phases totals → AreAdmittedPhases (bounded_sums high) bounded_difference side phases square)
    → ((high : ℕ) (phases : List (PhaseOf ℕ)) → bound ≤ high → AreTotals phases totals → index_of (bounded_sums high) phases ≡ totals.sum)
    → totals.sum ≤ top → HaveIndex (bounded_sums top) bounded_difference plain_word side square totals.sum words
index_within bound top side square words totals admits keeps are admitted index few =
    let phases = are.phases in
    let at : index_of (bounded_sums bound) phases ≡ totals.sum = index bound phases (omega arith) are.come in
    let low : index_of (bounded_sums bound) phases ≤ top = omega (arith, at, few) in
    ⊎_elim
    (λ (below : top < bound). record {
      admitted = record { phases = phases; written = are.written; admitted = admits top bound side phases square below low (admitted bound phases (omega arith) are.come) };
      same = keeps top bound phases below low ∙ at;
    })
    (λ (above : bound ≤ top). record {
      admitted = record { phases = phases; written = are.written; admitted = admitted top phases above are.come };
      same = index top phases above are.come;
    })
    (cases_lt top bound)
