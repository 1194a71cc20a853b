-- The bits before a child is made, while it is, and after it.
use Rattle.asg_branching.proofs.Common.{◌≡◌, ℕ, ◌+◌, ◌-◌, ◌<◌, ◌≤◌, Bool, true, false, List, [], length, get_or, IsTrue, slice_get, slice_index_or, Some, None, Option, sym, refl, ap, ◌∙◌, subst, arith, get_or-take, get_or_default, get_or_from_slice_get, BitTable, has_bit, IsExpanding, last_winner, fixed_for, kept_for, given_of, Search, is_active, Problem, square_side, count_below, row-from_active, keeps_copies, fixes_cell, AreBitsFor, PutsRow, Rules, given_at, fixes_first, bits_lost, bits_fixed, labels_from_part, keeps_cell, HasLabelsOf, column_label}
use Rattle.asg_branching.proofs.DeskSteps.{memory_with}
use Rattle.asg_branching.proofs.GrowCases.{node_rows, node_columns, node_place}
use Rattle.asg_branching.proofs.GrowStarts.{row_within}
use Rattle.asg_model.specs.declared.parts.Place.TheVariants.{All as PlaceAll}

-- bits that are all set are those before the first child
pub bits_first : (X : Problem) → X.place ≡ PlaceAll → (f : List (Option ℕ)) (side : ℕ) (B : BitTable) → B.rows ≡ side → B.columns ≡ side → ((r k : ℕ) → r < side → k < side → IsTrue (has_bit B r k)) → AreBitsFor side (fixes_cell X f 1) B
bits_first X all f side B rows columns set = record {
  rows = rows;
  columns = columns;
  each = λ r k hr hk. set r k hr hk ∙ sym (fixes_first X all f r k);
}

-- the last answer among the choices
pub last_answer_is : {V : Type 0} (S : Search V) → 1 ≤ S.given → given_at (given_of S) (S.given - 1) ≡ slice_index_or S.choices.items (S.given - 1) []
last_answer_is S some = get_or-take S.given S.choices.items (S.given - 1) [] (omega (arith, some))

-- the same where as many answers are the same
pub last_same : {V : Type 0} (S U : Search V) → given_of U ≡ given_of S → U.given ≡ S.given → given_at (given_of U) (U.given - 1) ≡ given_at (given_of S) (S.given - 1)
last_same S U given count i = given_at (given i) (count i - 1)

module _ {V : Type 0} (R : Rules V) (X : Problem) (count made : ℕ) (S : Search V) (before : ℕ → ℕ → Bool) (expanding : IsExpanding R X count made before S) where
  abbrev chosen_here : List (Option ℕ)
  chosen_here = given_at (given_of S) (S.given - 1)

  pub labels_here : HasLabelsOf X S.desk.work.now
  labels_here =
      labels_from_part X (expanding.growing.search.part (last_winner R.monoid.unit S)) (node_rows R X count made S expanding.growing) (node_columns R X count made S expanding.growing) (node_place R X count made S expanding.growing)
      S.desk.work.now expanding.work.labels

  -- with other bits children may grow as before
  pub with_bits : (keep : ℕ → ℕ → Bool) (bits : BitTable) → AreBitsFor (square_side X) keep bits → IsExpanding R X count made keep (record S { desk = record S.desk { bits = bits } })
  with_bits keep bits are =
      let growing = expanding.growing in
      let is = growing.memory.desk in
      record {
        growing = record {
          rankable = growing.rankable;
          some = growing.some;
          search = growing.search;
          base = growing.base;
          standing = growing.standing;
          memory = memory_with X S growing.memory S.tree S.slots (record S.desk { bits = bits }) refl refl growing.memory.used_fit refl refl
              (record {
                work = is.work;
                bit_rows = are.rows;
                bit_columns = are.columns;
                bench = is.bench;
                trial = is.trial;
                steps = is.steps;
                columns = is.columns;
                ids = is.ids;
              });
          room_is = growing.room_is;
          made_upto = growing.made_upto;
          made_are = growing.made_are;
          nodes_fit = growing.nodes_fit;
        };
        less = expanding.less;
        work = expanding.work;
        bits = are;
      }

  module _ (row number : ℕ) (active : is_active X row ≡ true) (numbered : count_below (is_active X) row ≡ number) where
    pub bit_row_here : row < S.desk.bits.rows
    bit_row_here = subst (λ n. row < n) (sym expanding.bits.rows) (row_within X expanding.growing.rankable.place row (row-from_active X row active))

    module _ (after : BitTable) (chosen : Option ℕ) (is : slice_index_or (given_at (given_of S) (S.given - 1)) row None ≡ chosen) where
      -- the row loses its column
      pub lost_here : AreBitsFor (square_side X) (fixes_cell X (given_at (given_of S) (S.given - 1)) (number + 1)) S.desk.bits → PutsRow S.desk.bits after row (λ k. keeps_copies chosen false (column_label X k))
          → AreBitsFor (square_side X) (keeps_cell X (given_at (given_of S) (S.given - 1)) (number + 1)) after
      lost_here bits puts =
          subst (λ n. AreBitsFor (square_side X) (keeps_cell X chosen_here (n + 1)) after) numbered
          (bits_lost X expanding.growing.rankable.place chosen_here row active S.desk.bits after chosen is
          (subst (λ n. AreBitsFor (square_side X) (fixes_cell X chosen_here (n + 1)) S.desk.bits) (sym numbered) bits) puts)

      -- and keeps it alone
      pub fixed_here : AreBitsFor (square_side X) (keeps_cell X (given_at (given_of S) (S.given - 1)) (number + 1)) S.desk.bits → PutsRow S.desk.bits after row (λ k. keeps_copies chosen true (column_label X k))
          → AreBitsFor (square_side X) (fixes_cell X (given_at (given_of S) (S.given - 1)) (number + 1 + 1)) after
      fixed_here bits puts =
          subst (λ n. AreBitsFor (square_side X) (fixes_cell X chosen_here (n + 1 + 1)) after) numbered
          (bits_fixed X expanding.growing.rankable.place chosen_here row active S.desk.bits after chosen is
          (subst (λ n. AreBitsFor (square_side X) (keeps_cell X chosen_here (n + 1)) S.desk.bits) (sym numbered) bits) puts)

-- what the last answer chooses for a row
pub chosen_is : {V : Type 0} (S : Search V) → 1 ≤ S.given → S.given - 1 < length S.choices.items → (choice : List (Option ℕ)) → choice ≡ get_or S.choices.items (S.given - 1) choice → (row : ℕ) (chosen : Option ℕ) → slice_get choice row ≡ Some chosen
    → slice_index_or (given_at (given_of S) (S.given - 1)) row None ≡ chosen
chosen_is S some below choice read row chosen got =
    ap (λ f. slice_index_or f row None) (last_answer_is S some ∙ get_or_default S.choices.items (S.given - 1) [] choice below ∙ sym read)
    ∙ get_or_from_slice_get choice row chosen None got

module _ {V : Type 0} (R : Rules V) (X : Problem) (count made row : ℕ) (active : is_active X row ≡ true) (number : count_below (is_active X) row ≡ made) (chosen : Option ℕ) where
  -- a child may grow once its row lost its column
  pub lost_expanding : (S : Search V) → IsExpanding R X count made (fixed_for X made S) S → slice_index_or (given_at (given_of S) (S.given - 1)) row None ≡ chosen → (bits : BitTable) → PutsRow S.desk.bits bits row (λ k. keeps_copies chosen false (column_label X k))
      → IsExpanding R X count made (kept_for X made S) (record S { desk = record S.desk { bits = bits } })
  lost_expanding S expanding is bits puts =
      with_bits R X count made S (fixed_for X made S) expanding (kept_for X made S) bits
      (lost_here R X count made S (fixed_for X made S) expanding row made active number bits chosen is expanding.bits puts)

  -- and the next one once the row keeps it alone
  pub fixed_expanding : (U : Search V) → IsExpanding R X count (made + 1) (kept_for X made U) U → slice_index_or (given_at (given_of U) (U.given - 1)) row None ≡ chosen → (bits : BitTable) → PutsRow U.desk.bits bits row (λ k. keeps_copies chosen true (column_label X k))
      → IsExpanding R X count (made + 1) (fixed_for X (made + 1) U) (record U { desk = record U.desk { bits = bits } })
  fixed_expanding U expanding is bits puts =
      with_bits R X count (made + 1) U (kept_for X made U) expanding (fixed_for X (made + 1) U) bits
      (fixed_here R X count (made + 1) U (kept_for X made U) expanding row made active number bits chosen is expanding.bits puts)
