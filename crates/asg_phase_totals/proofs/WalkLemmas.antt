-- A list of phases, walked from the last one back by segments.
use Rattle.asg_phase_totals.proofs.Common.{◌≡◌, ℕ, ◌+◌, ◌<◌, ◌≤◌, List, [], ◌∷◌, ◌++◌, length, get_or, take, drop, slice_index, Option, sym, ap, ◌∙◌, subst, ⊎_elim, append-nil, arith, take-append-drop, take_all, drop_all, drop_more, take_more, bounded_sums, bounded_difference, row_raise, column_raise, sum_of_steps, Totals, AreTotals, AreOrdered, StayBelow, EndsSegment, IsClosed, IsKeptOrClosed, PhaseOf, AreAdmittedPhases, AreAdmittedPhases-front, sum}
use Rattle.std.proofs.lemmas.List.{append_assoc}
use Rattle.asg_phase_totals.proofs.SegmentLemmas.{row_raise-append, column_raise-append, sum_of_steps-append, row_raise-few, sum_of_steps-more, admitted_end, segment_admitted}

-- the dual variables are those after the first so many phases and a segment behind them, which has
-- the totals; and where these are admitted, all are
pub record Walked (bound side : ℕ) (phases : List (PhaseOf ℕ)) (square : ℕ → ℕ → Option ℕ) (j : ℕ) (rows columns : List ℕ) (totals : Totals) : Type 0 where
  pub middle : List (PhaseOf ℕ)
  pub tail : List (PhaseOf ℕ)
  pub splits : drop j phases ≡ middle ++ tail
  pub rows_are : (r : ℕ) → r < side → slice_index rows r ≡ row_raise (take j phases ++ middle) r
  pub columns_are : (k : ℕ) → k < side → slice_index columns k ≡ column_raise (take j phases ++ middle) k
  pub count : length totals.rows ≡ side
  pub are : AreTotals middle totals
  pub rest : (top : ℕ) → bound ≤ top → AreAdmittedPhases (bounded_sums top) bounded_difference side (take j phases ++ middle) square
      → AreAdmittedPhases (bounded_sums top) bounded_difference side phases square

module _ (bound side : ℕ) (phases : List (PhaseOf ℕ)) (square : ℕ → ℕ → Option ℕ) where
  abbrev Admitted : ℕ → List (PhaseOf ℕ) → Type 0
  Admitted top list = AreAdmittedPhases (bounded_sums top) bounded_difference side list square

  -- all phases stand, and the segment is empty
  pub walked_start : (rows columns : List ℕ) (totals : Totals) → ((r : ℕ) → r < side → slice_index rows r ≡ row_raise phases r) → ((k : ℕ) → k < side → slice_index columns k ≡ column_raise phases k)
      → length totals.rows ≡ side → AreTotals [] totals → Walked bound side phases square (length phases) rows columns totals
  walked_start rows columns totals rows_are columns_are count are =
      let whole : take (length phases) phases ++ [] ≡ phases = append-nil (take (length phases) phases) ∙ take_all (length phases) phases (omega arith) in
      record {
        middle = [];
        tail = [];
        splits = drop_all (length phases) phases (omega arith);
        rows_are = λ r h. rows_are r h ∙ ap (λ ps. row_raise ps r) (sym whole);
        columns_are = λ k h. columns_are k h ∙ ap (λ ps. column_raise ps k) (sym whole);
        count = count;
        are = are;
        rest = λ top above all. subst (Admitted top) whole all;
      }

  module _ (few : sum_of_steps phases ≤ bound) (room : StayBelow bound side phases square) (j : ℕ) (rows columns : List ℕ) (totals : Totals) (walked : Walked bound side phases square j rows columns totals) where
    abbrev upto : List (PhaseOf ℕ)
    upto = take j phases ++ walked.middle

    -- the phases are those up to the segment's end and the others
    parts : upto ++ walked.tail ≡ phases
    parts =
        append_assoc (take j phases) walked.middle walked.tail
        ∙ ap (λ ps. take j phases ++ ps) (sym walked.splits)
        ∙ take-append-drop j phases

    sums : sum_of_steps upto ≤ sum_of_steps phases
    sums =
        let both = sum_of_steps-append upto walked.tail in
        let all = ap sum_of_steps parts in
        omega (arith, both, all)

    pub room_upto : (top : ℕ) → bound ≤ top → StayBelow top side upto square
    room_upto top above r k x hr hk is =
        let below = room r k x hr hk is in
        omega (arith, below, sums, above)

    -- a segment that ended well is admitted after those before it
    closed_admitted : EndsSegment side square rows columns totals → (top : ℕ) → bound ≤ top → Admitted top (take j phases) → Admitted top phases
    closed_admitted ends top above all =
        walked.rest top above
        (segment_admitted top side (take j phases) walked.middle square (room_upto top above) totals walked.are walked.count (omega (arith, sums, few, above))
        (λ r k x hr hk is falls. let last = ends r k x hr hk is falls in omega (arith, last, walked.rows_are r hr, walked.columns_are k hk))
        all)

    -- an empty segment is begun
    pub walked_closed : (rows′ columns′ : List ℕ) (totals′ : Totals) → length rows ≡ side → length columns ≡ side → length totals′.rows ≡ side → IsClosed side square rows columns totals rows′ columns′ totals′ → Walked bound side phases square j rows′ columns′ totals′
    walked_closed rows′ columns′ totals′ row_count column_count count closed =
        let front : take j phases ++ [] ≡ take j phases = append-nil (take j phases) in
        record {
          middle = [];
          tail = walked.middle ++ walked.tail;
          splits = walked.splits;
          rows_are = λ r h.
              let low = closed.rows_lowered.each r (omega (arith, h, row_count)) in
              let part = walked.are.rows r (omega (arith, h, walked.count)) in
              let both = row_raise-append (take j phases) walked.middle r in
              let same = ap (λ ps. row_raise ps r) front in
              omega (arith, low, part, both, same, walked.rows_are r h);
          columns_are = λ k h.
              let low = closed.columns_lowered.each k (omega (arith, h, column_count)) in
              let part = walked.are.columns k (omega (arith, h, walked.count)) in
              let both = column_raise-append (take j phases) walked.middle k in
              let same = ap (λ ps. column_raise ps k) front in
              omega (arith, low, part, both, same, walked.columns_are k h);
          count = count;
          are = closed.empty;
          rest = λ top above all. closed_admitted closed.ends top above (subst (Admitted top) front all);
        }

    -- where all phases are admitted, the segment ends well
    pub walked_ends : (top : ℕ) → bound ≤ top → Admitted top phases → EndsSegment side square rows columns totals
    walked_ends top above all =
        let front = AreAdmittedPhases-front (bounded_sums top) bounded_difference side upto walked.tail square (subst (Admitted top) (sym parts) all) in
        let end = admitted_end top side upto square (room_upto top above) front in
        λ r k x hr hk is falls. let last = end r k x hr hk is in omega (arith, last, walked.rows_are r hr, walked.columns_are k hk)

    -- the dual variables are few, and the segment's part is within them
    pub walked_row : (r : ℕ) → r < side → slice_index rows r ≤ bound
    walked_row r h = omega (arith, walked.rows_are r h, row_raise-few upto r, sums, few)

    pub walked_row_part : (r : ℕ) → r < side → slice_index totals.rows r ≤ slice_index rows r
    walked_row_part r h = omega (arith, walked.rows_are r h, walked.are.rows r (omega (arith, h, walked.count)), row_raise-append (take j phases) walked.middle r)

    pub walked_column_part : (k : ℕ) → k < side → slice_index totals.columns k ≤ slice_index columns k
    walked_column_part k h = omega (arith, walked.columns_are k h, walked.are.columns k (omega (arith, h, walked.count)), column_raise-append (take j phases) walked.middle k)

    -- what became of the segment
    pub walked_on : (rows′ columns′ : List ℕ) (totals′ : Totals) → length rows ≡ side → length columns ≡ side → length totals′.rows ≡ side → IsKeptOrClosed side square rows columns totals rows′ columns′ totals′
        → Walked bound side phases square j rows′ columns′ totals′ × AreOrdered totals′
    walked_on rows′ columns′ totals′ row_count column_count count =
        ⊎_elim
        (λ kept. (
          subst (λ (t : Totals). Walked bound side phases square j rows′ columns′ t) (sym kept.3)
              (subst (λ (xs : List ℕ). Walked bound side phases square j rows′ xs totals) (sym kept.2)
              (subst (λ (xs : List ℕ). Walked bound side phases square j xs columns totals) (sym kept.1) walked)),
          subst AreOrdered (sym kept.3) kept.0,
        ))
        (λ closed. (
          walked_closed rows′ columns′ totals′ row_count column_count count closed,
          λ r k hr hk. omega (arith, closed.empty.rows r hr),
        ))

  -- all were walked
  pub walked_all : (few : sum_of_steps phases ≤ bound) (room : StayBelow bound side phases square) (rows columns : List ℕ) (totals : Totals) → Walked bound side phases square 0 rows columns totals → EndsSegment side square rows columns totals → (top : ℕ) → bound ≤ top → Admitted top phases
  walked_all few room rows columns totals walked ends top above = closed_admitted few room 0 rows columns totals walked ends top above tt

  -- the sum of the segment and one phase more is that of a part of all
  pub walked_sum : (j : ℕ) (rows columns : List ℕ) (totals : Totals) (phase : PhaseOf ℕ) → Walked bound side phases square (j + 1) rows columns totals → j < length phases → phase ≡ get_or phases j phase → totals.sum + sum phase.steps ≤ sum_of_steps phases
  walked_sum j rows columns totals phase walked below is =
      let more = sum_of_steps-more phases j phase below is in
      let both = sum_of_steps-append (take (j + 1) phases) (drop (j + 1) phases) in
      let all = ap sum_of_steps (take-append-drop (j + 1) phases) in
      let parts = ap sum_of_steps walked.splits in
      let later = sum_of_steps-append walked.middle walked.tail in
      omega (arith, more, both, all, parts, later, walked.are.sum)

  -- one phase more
  pub walked_more : (j : ℕ) (rows columns : List ℕ) (totals totals′ : Totals) (phase : PhaseOf ℕ) (walked : Walked bound side phases square (j + 1) rows columns totals) → j < length phases → phase ≡ get_or phases j phase
      → length totals′.rows ≡ side → AreTotals (phase ∷ walked.middle) totals′ → Walked bound side phases square j rows columns totals′
  walked_more j rows columns totals totals′ phase walked below is count are =
      let one : take (j + 1) phases ≡ take j phases ++ phase ∷ [] = take_more phases j phase below ∙ ap (λ p. take j phases ++ p ∷ []) (sym is) in
      let same : take (j + 1) phases ++ walked.middle ≡ take j phases ++ phase ∷ walked.middle =
      ap (λ ps. ps ++ walked.middle) one ∙ append_assoc (take j phases) (phase ∷ []) walked.middle in
      record {
        middle = phase ∷ walked.middle;
        tail = walked.tail;
        splits = drop_more phases j phase below ∙ ap (λ p. p ∷ drop (j + 1) phases) (sym is) ∙ ap (λ ps. phase ∷ ps) walked.splits;
        rows_are = λ r h. walked.rows_are r h ∙ ap (λ ps. row_raise ps r) same;
        columns_are = λ k h. walked.columns_are k h ∙ ap (λ ps. column_raise ps k) same;
        count = count;
        are = are;
        rest = λ top above all. walked.rest top above (subst (Admitted top) (sym same) all);
      }
