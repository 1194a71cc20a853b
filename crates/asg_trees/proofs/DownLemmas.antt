-- From the square of a node's parent to that of the node.
use Rattle.asg_trees.proofs.Common.{◌≡◌, ℕ, ◌+◌, ◌<◌, ◌≤◌, true, List, [], ◌++◌, IfSome, Some, None, Option, option_map, sym, refl, ap, ◌∙◌, subst, ⊎_elim, arith, cases_lt, fun_ext, KeepsLabels, Reduced, BitTable, has_bit, HasSize, IsMaskOf, KeepsAll, HaveIndexAfter, masked_by, placed, Problem, square_side, Monoid, IsOrderedMonoid, IsValue, HasWords, Word, PhaseOf, AreAdmittedPhases, after_phases, index_of, after_phases-append, index_is_value, keeps_cell, node_answer, node_at, node_trail, AreAdmittedWords, HasPlace, HasTrail, IsMarked, is_answered, Mark, Answered, Open, Empty, AreAdmittedFrom, AreReplayed, IsStart, HaveIndex, square_cell, Grid, cell_at, masked_grid, HavePlaces, IsTrailSquare, StandsAbove, StandsAt, IsSound, TreeOf, instance_at}
use Rattle.asg_trees.proofs.MaskedTrails.{child_square, trail_side}
use Rattle.asg_trees.proofs.NodeBounds.{instance_child, trail_child}
use Rattle.asg_trees.proofs.NodeFacts.{keeps_cell-node, side-of_node}
use Rattle.asg_trees.proofs.OwnTrails.{own_of, whole_index, whole_of}
use Rattle.asg_admit.specs.laws.KeptLabels.{HasLabelsOf-kept}

module _ {V : Type 0} (T : TreeOf V) where
  -- a square with the same labels and cells as one after a trail is one
  pub same_square : (Y : Problem) (trail : List (PhaseOf Word)) (Q R : Grid V) (index : V) → IsTrailSquare T Y trail Q index → R.side ≡ Q.side → R.rows ≡ Q.rows → R.row_labels ≡ Q.row_labels → R.column_labels ≡ Q.column_labels → cell_at R ≡ cell_at Q → IsTrailSquare T Y trail R index
  same_square Y trail Q R index s side rows row_labels column_labels cells = record {
    admitted = s.admitted;
    labels = record { side = side ∙ s.labels.side; rows = rows ∙ s.labels.rows; row_labels = row_labels ∙ s.labels.row_labels; column_labels = column_labels ∙ s.labels.column_labels };
    cells = cells ∙ s.cells;
    product = s.product;
    values = λ r k x hr hk at. s.values r k x (subst (λ n. r < n) side hr) (subst (λ n. k < n) side hk) (sym (ap (λ square. square r k) cells) ∙ at);
    is_value = s.is_value;
  }

  -- the square of the instance before any step is that of the root before its own phases
  pub start_square : IsOrderedMonoid T.monoid → (start : Reduced V) → IsStart T.monoid T.enter T.problem start → IsTrailSquare T T.problem [] start.now start.index
  start_square laws start at = record {
    admitted = record { phases = []; written = refl; admitted = tt };
    labels = at.square.labels;
    cells = fun_ext (λ r. fun_ext (λ k. at.square.cells r k));
    product = at.index;
    values = at.reduced.cells;
    is_value = at.reduced.index;
  }

  -- where a square after a trail is led on by phases, it is one after the trail and them
  pub led_square : IsOrderedMonoid T.monoid → (Y : Problem) (trail own : List (PhaseOf Word)) (before after : Reduced V) → IsTrailSquare T Y trail before.now before.index → AreReplayed T.monoid T.difference T.word_of own before after
      → IsTrailSquare T Y (trail ++ own) after.now after.index
  led_square laws Y trail own before after s led =
      let o : AreAdmittedFrom T.monoid T.difference T.word_of before.now.side (cell_at before.now) own = record { phases = led.phases; written = led.written; admitted = led.admitted } in
      record {
        admitted = whole_of T Y trail own before.now before.index s o;
        labels = HasLabelsOf-kept Y before.now after.now led.labels s.labels;
        cells = led.cells
            ∙ ap (after_phases T.monoid T.difference led.phases) s.cells
            ∙ sym (after_phases-append T.monoid T.difference s.admitted.phases led.phases (square_cell Y T.monoid.unit T.enter));
        product = led.index ∙ sym (whole_index T Y trail own before.now before.index s laws o);
        values = led.reduced.cells;
        is_value = led.reduced.index;
      }

  module _ (n : ℕ) (below : 1 < n) (places : HavePlaces T (n + 1)) where
    falls : (m : ℕ) → 1 < m → m ≤ n → (node_at T.nodes m).parent < m
    falls m h upto = ((places m (omega (arith, h)) (omega (arith, upto))).below h).before

    rises : (m : ℕ) → 1 < m → m ≤ n → 1 ≤ (node_at T.nodes m).parent
    rises m h upto = ((places m (omega (arith, h)) (omega (arith, upto))).below h).there

    abbrev parent : ℕ
    parent = (node_at T.nodes n).parent

    -- the trail of a node below the root
    pub trail_is : node_trail T.nodes n ≡ node_trail T.nodes parent ++ (node_at T.nodes n).own
    trail_is = trail_child T.nodes n falls rises n below (omega arith)

    -- with the cells that its branch keeps the parent's square is that of the node's instance
    pub stands_above : (Q : Grid V) (index : V) (bits : BitTable) → StandsAt T parent Q index → IsMaskOf T.problem (node_answer T.answers T.nodes parent) (node_at T.nodes n).branch bits → StandsAbove T n Q bits index
    stands_above Q index bits s mask =
        let Y = instance_at T parent in
        let f = node_answer T.answers T.nodes parent in
        let branch = (node_at T.nodes n).branch in
        let side : square_side Y ≡ square_side T.problem = side-of_node T.problem T.answers T.nodes parent in
        let size : HasSize (square_side Y) bits = subst (λ n. HasSize n bits) (sym side) mask.size in
        let each : (r k : ℕ) → r < square_side Y → k < square_side Y → has_bit bits r k ≡ keeps_cell Y f branch r k =
        λ r k hr hk. mask.each r k (subst (λ n. r < n) side hr) (subst (λ n. k < n) side hk) ∙ sym (keeps_cell-node T.problem T.answers T.nodes parent f branch r k) in
        subst (λ (Z : Problem). IsTrailSquare T Z (node_trail T.nodes parent) (masked_grid Q bits.words) index)
        (sym (instance_child T.nodes n falls T.problem T.answers n below (omega arith)))
        (child_square T Y (node_trail T.nodes parent) Q index s f branch bits size each)

    -- led on by its own phases it is that of the node
    pub stands_at : IsOrderedMonoid T.monoid → (before after : Reduced V) → IsTrailSquare T (instance_at T n) (node_trail T.nodes parent) before.now before.index → AreReplayed T.monoid T.difference T.word_of (node_at T.nodes n).own before after
        → StandsAt T n after.now after.index
    stands_at laws before after s led =
        subst (λ words. IsTrailSquare T (instance_at T n) words after.now after.index) (sym trail_is)
        (led_square laws (instance_at T n) (node_trail T.nodes parent) (node_at T.nodes n).own before after s led)

-- the trail of a node that has its place is its parent's and its own phases
pub trail_of : {V : Type 0} (T : TreeOf V) (n : ℕ) → 1 ≤ n → HavePlaces T (n + 1) → node_trail T.nodes n ≡ node_trail T.nodes (node_at T.nodes n).parent ++ (node_at T.nodes n).own
trail_of T n from places =
    ⊎_elim
    (λ (first : n < 2).
    let root : n ≡ 1 = omega (arith, first, from) in
    let place = (places n from (omega arith)).root_parent root in
    ap (node_trail T.nodes) root ∙ ap (λ m. (node_at T.nodes m).own) (sym root) ∙ ap (λ p. node_trail T.nodes p ++ (node_at T.nodes n).own) (sym place))
    (λ (later : 2 ≤ n). trail_is T n (omega (arith, later)) places)
    (cases_lt n 2)

-- an answered node has a trail
trail_from : {V : Type 0} (T : TreeOf V) (n : ℕ) (mark : Mark) → IsMarked T.monoid T.difference T.word_of T.enter T.problem T.answers T.nodes n mark → is_answered mark ≡ true → HasTrail T.monoid T.difference T.word_of T.enter T.problem T.answers T.nodes n
trail_from T n (Answered a) marked is = marked.1
trail_from T n Open marked is = absurd (cc is)
trail_from T n (Empty rows) marked is = absurd (cc is)

module _ {V : Type 0} (T : TreeOf V) (laws : IsOrderedMonoid T.monoid) (value_of : Word → Option V) (spelled : HasWords T.monoid T.word_of value_of) (n : ℕ) (below : 1 < n) (places_of : HavePlaces T (n + 1)) (sound : IsSound T n) where
  -- the square of a node's parent, from which the cells that its branch doesn't keep are taken out
  pub taken_square : (Q R : Grid V) (index : V) (bits : BitTable) → StandsAt T (node_at T.nodes n).parent Q index → IsMaskOf T.problem (node_answer T.answers T.nodes (node_at T.nodes n).parent) (node_at T.nodes n).branch bits → KeepsLabels Q R
      → ((r k : ℕ) → cell_at R r k ≡ cell_at (masked_grid Q bits.words) r k) → IsTrailSquare T (instance_at T n) (node_trail T.nodes (node_at T.nodes n).parent) R index
  taken_square Q R index bits s mask labels cells =
      same_square T (instance_at T n) (node_trail T.nodes (node_at T.nodes n).parent) (masked_grid Q bits.words) R index
      (stands_above T n below places_of Q index bits s mask)
      labels.side labels.rows labels.row_labels labels.column_labels (fun_ext (λ r. fun_ext (λ k. cells r k)))

  -- the own phases of an answered node are admitted from it
  pub own_admitted : (R : Grid V) (index : V) → IsTrailSquare T (instance_at T n) (node_trail T.nodes (node_at T.nodes n).parent) R index → is_answered (node_at T.nodes n).mark ≡ true → AreAdmittedFrom T.monoid T.difference T.word_of R.side (cell_at R) (node_at T.nodes n).own
  own_admitted R index s answered =
      let trail = trail_from T n (node_at T.nodes n).mark sound.marked answered in
      own_of T (instance_at T n) (node_trail T.nodes (node_at T.nodes n).parent) (node_at T.nodes n).own R index s value_of spelled
      (subst (λ words. AreAdmittedWords T.monoid T.difference T.word_of T.enter (instance_at T n) words) (trail_is T n below places_of) trail)

  -- so they lead to the square of the node
  pub gone_down : (before after : Reduced V) → IsTrailSquare T (instance_at T n) (node_trail T.nodes (node_at T.nodes n).parent) before.now before.index → AreReplayed T.monoid T.difference T.word_of (node_at T.nodes n).own before after → StandsAt T n after.now after.index
  gone_down before after s led = stands_at T n below places_of laws before after s led

-- ---- the root

-- where the index before phases is the unit, that after them is theirs
pub led_known : {V : Type 0} (M : Monoid V) (laws : IsOrderedMonoid M) (difference : V → V → V) (word_of : V → Word) (words : List (PhaseOf Word)) (start : Reduced V) → start.index ≡ M.unit → (led : Option (Reduced V)) → IfSome led (AreReplayed M difference word_of words start)
    → IfSome (option_map (λ l. l.index) led) (λ index. HaveIndex M difference word_of start.now.side (cell_at start.now) index words)
led_known M laws difference word_of words start begun None known = tt
led_known M laws difference word_of words start begun (Some after) a =
    let value = index_is_value M laws difference start.now.side a.phases (cell_at start.now) a.admitted in
    record {
      admitted = record { phases = a.phases; written = a.written; admitted = a.admitted };
      same = sym (a.index ∙ ap (λ z. M.product z (index_of M a.phases)) begun ∙ laws.unit_neutral (index_of M a.phases) value);
    }

module _ {V : Type 0} (T : TreeOf V) (laws : IsOrderedMonoid T.monoid) (value_of : Word → Option V) (spelled : HasWords T.monoid T.word_of value_of) (start : Reduced V) (at : IsStart T.monoid T.enter T.problem start) where
  begun : IsTrailSquare T T.problem [] start.now start.index
  begun = start_square T laws start at

  -- where bits keep all cells, the square before any step is the root's before its own phases
  pub root_above : (bits : BitTable) → KeepsAll T.problem bits → HasPlace (placed T.problem) T.nodes 1 → StandsAbove T 1 start.now bits start.index
  root_above bits all place =
      let side = begun.labels.side in
      let size : HasSize start.now.side bits = subst (λ n. HasSize n bits) (sym side) all.size in
      let each : (r k : ℕ) → r < start.now.side → k < start.now.side → has_bit bits r k ≡ true = λ r k hr hk. all.each r k (subst (λ n. r < n) side hr) (subst (λ n. k < n) side hk) in
      let above = same_square T T.problem [] start.now (masked_grid start.now bits.words) start.index begun refl refl refl refl
      (masked_by start.now bits (λ r k. true) size each (trail_side T T.problem [] start.now start.index begun)) in
      subst (λ p. IsTrailSquare T T.problem (node_trail T.nodes p) (masked_grid start.now bits.words) start.index) (sym (place.root_parent refl)) above

  -- the own phases of a sound root are admitted
  pub root_admitted : IsSound T 1 → AreAdmittedFrom T.monoid T.difference T.word_of start.now.side (cell_at start.now) (node_at T.nodes 1).own
  root_admitted sound = by (node_at T.nodes 1).mark sound.marked
    where
      from_trail : AreAdmittedWords T.monoid T.difference T.word_of T.enter T.problem (node_at T.nodes 1).own → AreAdmittedFrom T.monoid T.difference T.word_of start.now.side (cell_at start.now) (node_at T.nodes 1).own
      from_trail trail = own_of T T.problem [] (node_at T.nodes 1).own start.now start.index begun value_of spelled trail

      by : (mark : Mark) → IsMarked T.monoid T.difference T.word_of T.enter T.problem T.answers T.nodes 1 mark → AreAdmittedFrom T.monoid T.difference T.word_of start.now.side (cell_at start.now) (node_at T.nodes 1).own
      by (Answered a) marked = from_trail marked.1
      by Open marked = from_trail marked
      by (Empty rows) marked = record { phases = []; written = sym marked.1; admitted = tt }

  -- so they lead to its square
  pub root_down : (after : Reduced V) → AreReplayed T.monoid T.difference T.word_of (node_at T.nodes 1).own start after → StandsAt T 1 after.now after.index
  root_down after led = led_square T laws T.problem [] (node_at T.nodes 1).own start after begun led

  -- where bits keep all cells, the index of phases from the square before any step is that after it
  pub known_after : (bits : BitTable) → KeepsAll T.problem bits → (words : List (PhaseOf Word)) (index : V) → HaveIndex T.monoid T.difference T.word_of start.now.side (cell_at start.now) index words
      → HaveIndexAfter T.monoid T.difference T.word_of start.now bits start.index words index
  known_after bits all words index have =
      let side = begun.labels.side in
      let phases = have.admitted.phases in
      let size : HasSize start.now.side bits = subst (λ n. HasSize n bits) (sym side) all.size in
      let each : (r k : ℕ) → r < start.now.side → k < start.now.side → has_bit bits r k ≡ true = λ r k hr hk. all.each r k (subst (λ n. r < n) side hr) (subst (λ n. k < n) side hk) in
      let cells : cell_at (masked_grid start.now bits.words) ≡ cell_at start.now = masked_by start.now bits (λ r k. true) size each (trail_side T T.problem [] start.now start.index begun) in
      let value = index_is_value T.monoid laws T.difference start.now.side phases (cell_at start.now) have.admitted.admitted in
      record {
        admitted = record {
          phases = phases;
          written = have.admitted.written;
          admitted = subst (AreAdmittedPhases T.monoid T.difference start.now.side phases) (sym cells) have.admitted.admitted;
        };
        product = sym have.same ∙ sym (laws.unit_neutral (index_of T.monoid phases) value) ∙ ap (λ z. T.monoid.product z (index_of T.monoid phases)) (sym at.index);
        is_value = subst (IsValue T.monoid) have.same value;
      }
