-- What is judged of a node by its mark, on the kept cells of its parent's square, is what is asked
-- of it.
use Rattle.asg_trees.proofs.Common.{◌≡◌, ℕ, ◌-◌, ◌≤◌, List, [], ◌++◌, length, is_some, Some, None, Option, sym, refl, ap, ◌∙◌, subst, arith, All-get_or, BitTable, ChoosesKept, kept_cells, AreAdmittedWithin, placed, IsHall, Problem, IsValid, Whole, is_active-from_live, choice_fold, IsLe, IsOrderedMonoid, HasWords, Word, PhaseOf, index_of, index_is_value, is_some-phases, answer_at, node_at, node_trail, AreAdmittedWords, HasPlace, HasTrail, IsMarked, MayStayOpen, last_answer, Mark, Answered, Open, Empty, IsInstance-node, place-of_node, square_cell, Grid, HasLabelsOf, cell_at, OutnumberColumns, TellsCells, masked_grid, has_cell, IsBounded, JudgesMark, MarkHolds, Judges, IsTrailSquare, IsLastProduct, IsReady, IsSound, TreeOf, instance_at, Judgement, AtFault, LeftOpen, Fine}
use Rattle.asg_square.specs.laws.HallColumns.{hall_by_square}
use Rattle.asg_trees.specs.declared.judged_trees.Tree.{Tree}
use Rattle.asg_trees.proofs.NodeFacts.{active-of_node, chooses-from_live, columns-from_node, columns-to_node, live-from_kept, valid-to_node}
use Rattle.asg_trees.proofs.OwnTrails.{own_index, own_of, whole_index, whole_of}
use Rattle.asg_model.specs.declared.parts.Place.TheVariants.{All as PlaceAll}

module _ {V : Type 0} (T : TreeOf V) (tree : Tree V) (ready : IsReady T tree) (laws : IsOrderedMonoid T.monoid) (value_of : Word → Option V) (spelled : HasWords T.monoid T.word_of value_of)
    (presence : (X : Problem) (r k : ℕ) → is_some (square_cell X T.monoid.unit T.enter r k) ≡ has_cell X Whole r k)
    (n : ℕ) (trail : List (PhaseOf Word)) (is_trail : node_trail T.nodes n ≡ trail ++ (node_at T.nodes n).own)
    (Q : Grid V) (kept : BitTable) (before : V) (s : IsTrailSquare T (instance_at T n) trail (masked_grid Q kept.words) before) where
  abbrev Z : Problem
  Z = instance_at T n

  abbrev own : List (PhaseOf Word)
  own = (node_at T.nodes n).own

  abbrev G : Grid V
  G = masked_grid Q kept.words

  abbrev Trail : Type 0
  Trail = HasTrail T.monoid T.difference T.word_of T.enter T.problem T.answers T.nodes n

  abbrev Own : Type 0
  Own = AreAdmittedWithin T.monoid T.difference T.word_of Q kept own

  all_placed : Z.place ≡ PlaceAll
  all_placed = place-of_node T.problem T.answers T.nodes n ∙ ready.all_placed

  present : (r k : ℕ) → is_some (cell_at G r k) ≡ has_cell Z Whole r k
  present r k =
      ap (λ square. is_some (square r k)) s.cells
      ∙ is_some-phases T.monoid T.difference s.admitted.phases (square_cell Z T.monoid.unit T.enter) r k
      ∙ presence Z r k

  abbrev Admitted : List (PhaseOf Word) → Type 0
  Admitted words = AreAdmittedWords T.monoid T.difference T.word_of T.enter Z words

  abbrev whole : Own → Admitted (trail ++ own)
  whole o = whole_of T Z trail own G before s o

  -- a trail with its index
  abbrev WithIndex : V → List (PhaseOf Word) → Type 0
  WithIndex index words = (t : Admitted words) × (index_of T.monoid t.phases ≡ index)

  with_trail : (o : Own) → WithIndex (T.monoid.product before (index_of T.monoid o.phases)) (node_trail T.nodes n)
  with_trail o = subst (WithIndex (T.monoid.product before (index_of T.monoid o.phases))) (sym is_trail) (whole o, whole_index T Z trail own G before s laws o)

  with_own : (t : Trail) → (o : Own) × (index_of T.monoid t.phases ≡ T.monoid.product before (index_of T.monoid o.phases))
  with_own t =
      let w = subst (WithIndex (index_of T.monoid t.phases)) is_trail (t, refl) in
      (own_of T Z trail own G before s value_of spelled w.0, sym w.1 ∙ own_index T Z trail own G before s value_of spelled w.0 laws)

  -- ---- answers

  valid_answer : (a : ℕ) → 1 ≤ a → a ≤ length T.answers → IsValid T.problem (answer_at T.answers a)
  valid_answer a from upto = All-get_or (IsValid T.problem) T.answers (a - 1) [] (omega (arith, from, upto)) ready.valid

  labels : HasLabelsOf Z Q
  labels = record { side = s.labels.side; rows = s.labels.rows; row_labels = s.labels.row_labels; column_labels = s.labels.column_labels }

  chosen_valid : (g : List (Option ℕ)) → IsValid T.problem g → ChoosesKept Q kept.words g → IsValid Z g
  chosen_valid g valid chooses =
      valid-to_node T.problem T.answers T.nodes n g valid
      (λ r d c.
      let active = active-of_node T.problem T.answers T.nodes n r ∙ is_active-from_live T.problem r d (valid.alive r d c) in
      live-from_kept Z all_placed (IsInstance-node T.problem T.answers T.nodes ready.instance n) Q kept.words labels present r d active (chooses r d c))

  valid_chosen : (g : List (Option ℕ)) → IsValid Z g → ChoosesKept Q kept.words g
  valid_chosen g valid =
      chooses-from_live Z all_placed (IsInstance-node T.problem T.answers T.nodes ready.instance n) Q kept.words labels present g valid.alive

  -- ---- Hall sets

  tells : TellsCells Z (kept_cells Q kept)
  tells r k hr hk = present r k

  hall_of : (rows : List ℕ) → OutnumberColumns T.problem (kept_cells Q kept) rows → IsHall Z Whole rows
  hall_of rows out =
      (hall_by_square Z all_placed (kept_cells Q kept) tells rows).1 (columns-to_node T.problem T.answers T.nodes n (kept_cells Q kept) rows out)

  columns_of : (rows : List ℕ) → IsHall Z Whole rows → OutnumberColumns T.problem (kept_cells Q kept) rows
  columns_of rows hall =
      columns-from_node T.problem T.answers T.nodes n (kept_cells Q kept) rows ((hall_by_square Z all_placed (kept_cells Q kept) tells rows).0 hall)

  -- ---- marks

  abbrev Holds : Mark → Type 0
  Holds mark = MarkHolds T.monoid T.difference T.word_of T.problem T.answers T.nodes Q kept n mark

  abbrev Marked : Mark → Type 0
  Marked mark = IsMarked T.monoid T.difference T.word_of T.enter T.problem T.answers T.nodes n mark

  marked_from : (mark : Mark) → Holds mark → Marked mark
  marked_from (Answered a) h = (
    record {
      from = h.0.from;
      upto = h.0.upto;
      first = h.0.first;
      valid = chosen_valid (answer_at T.answers a) (valid_answer a h.0.from h.0.upto) h.1;
      branches = h.0.branches;
    },
    (with_trail h.2).0,
  )
  marked_from Open h = (with_trail h).0
  marked_from (Empty rows) h = (hall_of rows h.0, h.1)

  holds_from : (mark : Mark) → Marked mark → Holds mark
  holds_from (Answered a) m = (
    record { from = m.0.from; upto = m.0.upto; first = m.0.first; branches = m.0.branches },
    valid_chosen (answer_at T.answers a) m.0.valid,
    (with_own m.1).0,
  )
  holds_from Open m = (with_own m).0
  holds_from (Empty rows) m = (columns_of rows m.0, m.1)

  -- ---- open nodes

  module _ (last : Option V) (is_last : IsLastProduct T.monoid T.enter T.problem T.count T.answers last) where
    abbrev Bounded : Type 0
    Bounded = IsBounded T.monoid T.difference T.word_of last Q kept before own

    abbrev May : Type 0
    May = MayStayOpen T.monoid T.difference T.word_of T.enter T.problem T.count T.answers T.nodes n

    abbrev fold : V
    fold = choice_fold T.monoid T.enter T.problem (last_answer T.answers)

    may_from : Bounded → May
    may_from b =
        let have = b.3 in
        let t = with_trail have.admitted in
        record {
          full = is_last.full b.0 b.2;
          trail = t.0;
          bound = subst (λ index. IsLe T.monoid fold index) (have.product ∙ sym t.1) (subst (λ z. IsLe T.monoid z b.1) (is_last.product b.0 b.2) b.4);
        }

    bounded_from : May → Bounded
    bounded_from m = by last refl
      where
        by : (o : Option V) → last ≡ o → Bounded
        by None e = absurd (omega (arith, is_last.fewer e, m.full))
        by (Some z) e =
            let o = with_own m.trail in
            let index = T.monoid.product before (index_of T.monoid o.0.phases) in (
              z,
              index,
              e,
              record {
                admitted = o.0;
                product = refl;
                is_value = laws.product_is_value before (index_of T.monoid o.0.phases) s.is_value (index_is_value T.monoid laws T.difference Q.side o.0.phases (cell_at G) o.0.admitted);
              },
              subst (λ y. IsLe T.monoid y index) (sym (is_last.product z e)) (subst (λ i. IsLe T.monoid fold i) o.1 m.bound),
            )

    -- ---- judgements

    module _ (place : HasPlace (placed T.problem) T.nodes n) where
      sound_of : (mark : Mark) → (node_at T.nodes n).mark ≡ mark → Holds mark → IsSound T n
      sound_of mark e h = record { has_place = place; marked = subst Marked (sym e) (marked_from mark h) }

      faulty_of : (mark : Mark) → (node_at T.nodes n).mark ≡ mark → ¬ Holds mark → ¬ IsSound T n
      faulty_of mark e none = λ sound. none (holds_from mark (subst Marked e sound.marked))

      -- a judgement of a node's mark is one of the node
      pub judged : (mark : Mark) → (node_at T.nodes n).mark ≡ mark → (judgement : Judgement) → JudgesMark T.monoid T.difference T.word_of (record { problem = T.problem; answers = T.answers; nodes = T.nodes; last = last }) Q kept before n mark judgement → Judges T n judgement
      judged (Answered a) e AtFault h = faulty_of (Answered a) e h
      judged (Answered a) e LeftOpen h = absurd h
      judged (Answered a) e Fine h = (sound_of (Answered a) e h, λ opened. absurd (cc (e, opened)))
      judged Open e AtFault h = faulty_of Open e h
      judged Open e LeftOpen h = (sound_of Open e h.0, (e, λ may. h.1 (bounded_from may)))
      judged Open e Fine h = (sound_of Open e h.3.admitted, λ opened. may_from h)
      judged (Empty rows) e AtFault h = faulty_of (Empty rows) e h
      judged (Empty rows) e LeftOpen h = absurd h
      judged (Empty rows) e Fine h = (sound_of (Empty rows) e h, λ opened. absurd (cc (e, opened)))
