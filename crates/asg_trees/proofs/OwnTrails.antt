-- A trail and phases of a node's own after it.
use Rattle.asg_trees.proofs.Common.{◌≡◌, ℕ, List, ◌++◌, map, length, take, drop, Option, sym, ap, ◌∙◌, subst, take-append-drop, drop-append_seam, drop-map, map-append, take-append_seam, take-map, Problem, square_side, Monoid, IsOrderedMonoid, HasWords, Word, PhaseOf, worded, after_phases, AreAdmittedPhases, index_of, AreAdmittedPhases-append, AreAdmittedPhases-back, AreAdmittedPhases-front, index_of-append, AreAdmittedWords, AreAdmittedFrom, phases-once, square_cell, Grid, cell_at, IsTrailSquare, TreeOf}

module _ {V : Type 0} (T : TreeOf V) (Y : Problem) (trail own : List (PhaseOf Word)) (Q : Grid V) (index : V) (s : IsTrailSquare T Y trail Q index) where
  abbrev M : Monoid V
  M = T.monoid

  abbrev Own : Type 0
  Own = AreAdmittedFrom M T.difference T.word_of Q.side (cell_at Q) own

  abbrev Whole : Type 0
  Whole = AreAdmittedWords M T.difference T.word_of T.enter Y (trail ++ own)

  abbrev begin : ℕ → ℕ → Option V
  begin = square_cell Y M.unit T.enter

  -- phases that are admitted in turn from the square are so after its trail
  pub own_after : (o : Own) → AreAdmittedPhases M T.difference (square_side Y) o.phases (after_phases M T.difference s.admitted.phases begin)
  own_after o =
      subst (AreAdmittedPhases M T.difference (square_side Y) o.phases) s.cells
      (subst (λ n. AreAdmittedPhases M T.difference n o.phases (cell_at Q)) s.labels.side o.admitted)

  abbrev pub whole_of : Own → Whole
  whole_of o = record {
    phases = s.admitted.phases ++ o.phases;
    written = map-append (worded T.word_of) s.admitted.phases o.phases
        ∙ ap (λ ws. ws ++ map (worded T.word_of) o.phases) s.admitted.written
        ∙ ap (λ ws. trail ++ ws) o.written;
    admitted = AreAdmittedPhases-append M T.difference (square_side Y) s.admitted.phases o.phases begin s.admitted.admitted (own_after o);
  }

  -- and the index is that of both
  pub whole_index : IsOrderedMonoid M → (o : Own) → index_of M (whole_of o).phases ≡ M.product index (index_of M o.phases)
  whole_index laws o =
      index_of-append M laws T.difference (square_side Y) s.admitted.phases o.phases begin s.admitted.admitted (own_after o)
      ∙ ap (λ z. M.product z (index_of M o.phases)) (sym s.product)

  module _ (value_of : Word → Option V) (spelled : HasWords M T.word_of value_of) (w : Whole) where
    abbrev front : List (PhaseOf V)
    front = take (length trail) w.phases

    abbrev back : List (PhaseOf V)
    back = drop (length trail) w.phases

    pub both : AreAdmittedPhases M T.difference (square_side Y) (front ++ back) begin
    both = subst (λ phases. AreAdmittedPhases M T.difference (square_side Y) phases begin) (sym (take-append-drop (length trail) w.phases)) w.admitted

    pub front_is : front ≡ s.admitted.phases
    front_is =
        phases-once M T.word_of value_of spelled T.difference (square_side Y) begin front s.admitted.phases
        (AreAdmittedPhases-front M T.difference (square_side Y) front back begin both) s.admitted.admitted
        (sym (take-map (worded T.word_of) (length trail) w.phases) ∙ ap (take (length trail)) w.written ∙ take-append_seam trail own ∙ sym s.admitted.written)

    pub back_after : AreAdmittedPhases M T.difference (square_side Y) back (after_phases M T.difference s.admitted.phases begin)
    back_after =
        subst (λ phases. AreAdmittedPhases M T.difference (square_side Y) back (after_phases M T.difference phases begin)) front_is
        (AreAdmittedPhases-back M T.difference (square_side Y) front back begin both)

    -- phases that are admitted as a whole are so after the trail
    abbrev pub own_of : Own
    own_of = record {
      phases = back;
      written = sym (drop-map (worded T.word_of) (length trail) w.phases) ∙ ap (drop (length trail)) w.written ∙ drop-append_seam trail own;
      admitted = subst (λ n. AreAdmittedPhases M T.difference n back (cell_at Q)) (sym s.labels.side)
          (subst (AreAdmittedPhases M T.difference (square_side Y) back) (sym s.cells) back_after);
    }

    pub own_index : IsOrderedMonoid M → index_of M w.phases ≡ M.product index (index_of M own_of.phases)
    own_index laws =
        ap (index_of M) (sym (take-append-drop (length trail) w.phases))
        ∙ index_of-append M laws T.difference (square_side Y) front back begin
        (AreAdmittedPhases-front M T.difference (square_side Y) front back begin both)
        (AreAdmittedPhases-back M T.difference (square_side Y) front back begin both)
        ∙ ap (λ phases. M.product (index_of M phases) (index_of M back)) front_is
        ∙ ap (λ z. M.product z (index_of M back)) (sym s.product)
