-- Phases that were given, taken over from a copy of a square.
use Rattle.asg_algebra.proofs.Common.{◌≡◌, ℕ, ◌<◌, ◌≤◌, List, [], ◌∷◌, length, get_or, replicate, cond, is_none, is_some, IfSome, Some, None, Option, All, All-cons, All-nil, All-head, All-tail, sym, ap, ◌∙◌, subst, arith, false≢true, ⊎_elim, cases_lt, get_or_past, length-replicate, Reduced, ArePushed, LeadTo, HasSolved, EndsIn, last_of, unmatched, IsAbsorbed, IsMatched, IsPerfect, Matches, Monoid, Forest, IsLive, phases_to, PhaseOf, AreAdmittedPhases, after_phase, cell_at}
use Rattle.asg_match.specs.laws.Matchings.{Matches-empty}
use Rattle.asg_proof.specs.PromisedProofs.{IsPhaseOver}
use Rattle.asg_algebra.specs.Continued.{IsTaken}
use Rattle.asg_algebra.specs.Ended.{IsPerfectEnd}
use Rattle.asg_algebra.specs.declared.continued.Taken.{Taken}
use Rattle.asg_algebra.specs.declared.solving.Solved.{Solved}
use Rattle.asg_algebra.specs.declared.solving.Solved.TheVariants.{Perfect, Short}
use Rattle.asg_algebra.specs.declared.square_solvers.SolvedSquare.{SolvedSquare}
use Rattle.asg_algebra.proofs.TakenLaws.{HasSolved-led}
use Rattle.std.proofs.lemmas.List.Folds.{sum_by-replicate}
use Rattle.std.proofs.lemmas.List.Elements.{All-get_or}

-- where no row has a column, no cell is matched, all rows are counted, and the list is as long as the side
pub matched_none : (side : ℕ) (matching : List (Option ℕ)) → matching ≡ replicate side None → (r c : ℕ) → Matches matching r c → ⊥
matched_none side matching is r c e = Matches-empty side r c (subst (λ xs. Matches xs r c) is e)

pub unmatched_side : (side : ℕ) (matching : List (Option ℕ)) → matching ≡ replicate side None → unmatched matching ≡ side
unmatched_side side matching is = ap unmatched is ∙ omega (arith, sum_by-replicate (λ (o : Option ℕ). cond (is_none o) 1 0) side None)

pub matching_side : (side : ℕ) (matching : List (Option ℕ)) → matching ≡ replicate side None → length matching ≡ side
matching_side side matching is = ap (λ (xs : List (Option ℕ)). length xs) is ∙ length-replicate side None

-- a row that has a column is one of the matching
matched_below : (m : List (Option ℕ)) (r : ℕ) → IsMatched m r → r < length m
matched_below m r matched =
    ⊎_elim
    (λ (low : r < length m). low)
    (λ past. absurd (false≢true (sym (ap is_some (get_or_past m r None past)) ∙ matched)))
    (cases_lt r (length m))

-- each of the phases is one over the side
pub over_at : {V : Type 0} (side : ℕ) (given : List (PhaseOf V)) (k : ℕ) (phase : PhaseOf V) → k < length given → phase ≡ get_or given k phase → All (IsPhaseOver side) given → IsPhaseOver side phase
over_at side given k phase low at over =
    subst (IsPhaseOver side) (sym at) (All-get_or (IsPhaseOver side) given k phase low over)

module _ {V : Type 0} (M : Monoid V) (difference : V → V → V) where
  -- phases that are admitted in turn, of 1 to side steps each, are phases over the side
  pub over_side : (side : ℕ) (phases : List (PhaseOf V)) (square : ℕ → ℕ → Option V) → AreAdmittedPhases M difference side phases square → All (λ phase. (1 ≤ length phase.steps) × (length phase.steps ≤ side)) phases → All (IsPhaseOver side) phases
  over_side side [] square admitted sizes = All-nil (IsPhaseOver side)
  over_side side (phase ∷ rest) square admitted sizes =
      let P : PhaseOf V → Type 0 = λ phase. (1 ≤ length phase.steps) × (length phase.steps ≤ side) in
      let size = All-head P phase rest sizes in
      All-cons (IsPhaseOver side) phase rest
      (record { some = omega (arith, size.0); few = size.1; enters = admitted.0.rows; leaves = admitted.0.columns })
      (over_side side rest (after_phase M difference phase square) admitted.1 (All-tail P phase rest sizes))

  -- where every row has a column, the assignment is perfect
  perfect_of : (reduced : Reduced V) (found : List (Option ℕ)) (ended : Solved) → EndsIn M reduced found [] ended → IsPerfectEnd ended → IsPerfect (IsAbsorbed M reduced.index (cell_at reduced.now)) reduced.now.side found
  perfect_of reduced found (Perfect last) ends is = ends
  perfect_of reduced found (Short last) ends is = absurd is

  -- what was solved on a copy, by the phases that were given, is taken
  pub IsTaken-found : (before copy : Reduced V) (found : Option (SolvedSquare V)) (solved : SolvedSquare V) (m q : List (Option ℕ)) (f g : Forest V) (given : List (PhaseOf V)) → copy ≡ before → found ≡ Some solved → IfSome found (λ s. HasSolved M difference copy s.reduced m q f g None (last_of s.ended)) → IfSome found (λ s. EndsIn M s.reduced q [] s.ended) → IfSome found (λ s. phases_to g (last_of s.ended) ≡ given) → IfSome found (λ s. IsPerfectEnd s.ended) → IsTaken M difference given before (record { reduced = solved.reduced; matching = q })
  IsTaken-found before copy found solved m q f g given same is has ends list perfect =
      let last = last_of solved.ended in
      let at : HasSolved M difference copy solved.reduced m q f g None last =
      subst (λ o. IfSome o (λ s. HasSolved M difference copy s.reduced m q f g None (last_of s.ended))) is has in
      let listed : phases_to g last ≡ given = subst (λ o. IfSome o (λ s. phases_to g (last_of s.ended) ≡ given)) is list in
      let phases : at.phases ≡ given = sym at.list ∙ listed in
      record {
        from = f;
        to = g;
        last = last;
        lead = subst (λ b. LeadTo M difference given b solved.reduced f g None last) same
            (subst (λ ps. LeadTo M difference ps copy solved.reduced f g None last) phases at.lead);
        perfect = perfect_of solved.reduced q solved.ended
            (subst (λ o. IfSome o (λ s. EndsIn M s.reduced q [] s.ended)) is ends)
            (subst (λ o. IfSome o (λ s. IsPerfectEnd s.ended)) is perfect);
      }

  -- phases that were taken are pushed elsewhere
  pub HasSolved-taken : (given : List (PhaseOf V)) (before : Reduced V) (taken : Taken V) (m : List (Option ℕ)) (f g : Forest V) (trail last : Option ℕ) → IsTaken M difference given before taken → length m ≡ before.now.side → length given ≤ unmatched m → IfSome trail (IsLive f) → ArePushed given f g trail last → HasSolved M difference before taken.reduced m taken.matching f g trail last
  HasSolved-taken given before taken m f g trail last is side few live pushed =
      let there = is.lead in
      let perfect = is.perfect in
      let lead : LeadTo M difference given before taken.reduced f g trail last = record {
        pushed = pushed;
        admitted = there.admitted;
        outcome = there.outcome;
        index = there.index;
        labels = there.labels;
        reduced = there.reduced;
        sizes = there.sizes;
      } in
      HasSolved-led lead m taken.matching few live
      (record {
        side = perfect.rows ∙ there.labels.side ∙ sym side;
        columns = perfect.columns;
        absorbed = perfect.cells;
        kept = λ r matched. perfect.all r (omega (arith, matched_below m r matched, side, there.labels.side));
      })
