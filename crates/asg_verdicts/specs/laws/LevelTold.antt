-- What verdicts tell of an assignment with levels: the first that is none, or that they don't hold
-- in all.
use mathlib.Core.HLevel.{dec→stable}
use mathlib.Core.List.{List-discrete}
use mathlib.Core.Logic.Dec.{and, not, of_iff}
use Rattle.std.proofs.Common.{◌≡◌, ◌≢◌, ℕ, zero, suc, ◌<◌, ◌≤◌, ◌^◌, ◌&&◌, Bool, true, false, cond, List, [], ◌∷◌, length, take, map, get_or, Option, Some, None, inl, inr, refl, sym, ap, ◌∙◌, subst, arith, is_some}
use Rattle.std.proofs.Math.Bool.{Bool-discrete}
use Rattle.std.proofs.Math.Decide.{ℕ_discrete}
use Rattle.std.specs.Prelude.{ℤ, pos, AllPairs, IsTrue, nat_lt, slice_get, sum_by}
use Rattle.std.proofs.lemmas.Bool.{false≢true, and_parts, ltb-true, lt-ltb}
use Rattle.std.proofs.lemmas.List.{get_or_default}
use Rattle.std.proofs.lemmas.Option.{none-some, same_Some, slice_get_within}
use Rattle.asg_model.specs.declared.bands.Band.TheVariants.{Whole}
use Rattle.asg_model.specs.declared.objectives.Objective.{Objective}
use Rattle.asg_model.specs.declared.objectives.Objective.TheVariants.{Lex}
use Rattle.asg_model.specs.Counts.{placed}
use Rattle.asg_model.specs.Problem.{Problem}
use Rattle.asg_model.specs.Shapes.{square_side}
use Rattle.asg_model.specs.Values.{costs_at, costs_of}
use Rattle.asg_model.specs.laws.Tests.{dec_below}
use Rattle.asg_order.specs.declared.words.Word.{Word}
use Rattle.asg_monoids.specs.BoundedSums.{bounded_difference, bounded_value, plain_word}
use Rattle.asg_monoids.specs.laws.Bounded.{bounded_word_laws}
use Rattle.asg_square.specs.Cells.{square_cell, choice_of}
use Rattle.asg_square.specs.Presence.{has_cell}
use Rattle.asg_proof.specs.declared.levels.Level.{Level}
use Rattle.asg_proof.specs.Levels.{level_sums, numbers_of, level_square, left_for, left_after, left_last, restricted, is_after, IsLevel, AreLevelsFrom, IsLeftAssignment, ProvesLevels, ProvesRanks, last_cost, left_so_far}
use Rattle.asg_proof.specs.Phases.{PhaseOf, AreAdmittedPhases, index_of, phase_of, worded}
use Rattle.asg_proof.specs.Proves.{is_rank_objective}
use Rattle.asg_verdicts.specs.declared.verdicts.Reason.TheVariants.{BadLevel}
use Rattle.asg_verdicts.specs.declared.verdicts.Verdict.TheVariants.{No, Yes}
use Rattle.asg_verdicts.specs.LevelReasons.{cost_before, left_before, IsColumnList, IsNoLevelAt, HoldInAll, AreBadLevelsAt, LevelsStand}
use Rattle.asg_replays.specs.Replays.{AreAdmittedFrom}
use Rattle.asg_verdicts.specs.Verdicts.{IsToldOf, Tells, level_reasons}
use Rattle.asg_verdicts.specs.Spots.{At, Overall, Spot}
use Rattle.asg_replays.specs.laws.PhaseWords.{dec_admitted}
use Rattle.asg_verdicts.specs.laws.Parts.{dec_there, first_told, none_there, tested_parts, whole_told}
use Rattle.asg_verdicts.specs.laws.ToldReasons.{Nowhere, Tested}

-- ---- levels by place

module _ (X : Problem) (perm : List ℕ) where
  -- the level at a place is one after those before it
  level_at : (levels : List Level) (before : Option ℤ) (left : ℕ → ℕ → Bool) → AreLevelsFrom X perm before left levels → (n : ℕ) (level : Level) → slice_get levels n ≡ Some level
      → IsLevel X perm (last_cost before (take n levels)) (left_so_far X before left (take n levels)) level
  level_at [] before left all n level there = let within = slice_get_within [] n level there in absurd (omega (arith, within))
  level_at (x ∷ xs) before left all zero level there = subst (IsLevel X perm before left) (same_Some x level there) all.0
  level_at (x ∷ xs) before left all (suc n) level there = level_at xs (Some x.cost) (left_after X before left x) all.1 n level there

  -- where each is, all are
  levels_from : (levels : List Level) (before : Option ℤ) (left : ℕ → ℕ → Bool) → ((n : ℕ) (level : Level) → slice_get levels n ≡ Some level → IsLevel X perm (last_cost before (take n levels)) (left_so_far X before left (take n levels)) level)
      → AreLevelsFrom X perm before left levels
  levels_from [] before left each = tt
  levels_from (x ∷ xs) before left each = (each 0 x refl, levels_from xs (Some x.cost) (left_after X before left x) (λ n level there. each (suc n) level there))

  if_some : {V : Type 0} (b : Bool) (o : Option V) → is_some (cond b o None) ≡ true → (b ≡ true) × (is_some o ≡ true)
  if_some true o e = (refl, e)
  if_some false o e = absurd (false≢true e)

  -- an assignment by what is left is a list of different columns
  columns_of_left : (levels : List Level) → IsLeftAssignment X perm levels → IsColumnList X perm
  columns_of_left levels a = record {
    over = a.over;
    apart = a.apart;
    within = λ r d h.
        let here : r < square_side X = subst (λ n. r < n) a.over h in
        let c = get_or perm r 0 in
        let left = if_some (left_last X None (has_cell X Whole) levels r c) (square_cell X false (λ cost. true) r c) (a.present r here) in
        let inside = if_some (nat_lt r (square_side X) && nat_lt c (square_side X)) _ left.1 in
        let column = (and_parts (nat_lt r (square_side X)) (nat_lt c (square_side X)) inside.0).1 in
        subst (λ k. k < square_side X) (get_or_default perm r 0 d h) (ltb-true c (square_side X) column);
  }

  -- ---- what is decided

  steps_back : (xs : List ℕ) → map (λ (word : Word). word.amount) (map plain_word xs) ≡ xs
  steps_back [] = refl
  steps_back (x ∷ xs) = ap (λ ys. x ∷ ys) (steps_back xs)

  pub numbers_back : (phases : List (PhaseOf ℕ)) → numbers_of (map (worded plain_word) phases) ≡ phases
  numbers_back [] = refl
  numbers_back (p ∷ ps) = ap (λ steps. phase_of steps p.enters p.leaves ∷ numbers_of (map (worded plain_word) ps)) (steps_back p.steps) ∙ ap (λ qs. p ∷ qs) (numbers_back ps)

  dec_some : (n : ℕ) → Dec (1 ≤ n)
  dec_some zero = no (λ h. omega (arith, h))
  dec_some (suc n) = yes (omega arith)

  module _ (before : Option ℤ) (left : ℕ → ℕ → Bool) (level : Level) where
    abbrev square : ℕ → ℕ → Option ℕ
    square = level_square X (left_for X before left level) level.cost

    abbrev pub Admitted : Type 0
    Admitted = AreAdmittedFrom level_sums bounded_difference plain_word (square_side X) square level.phases

    abbrev pub Parts : Type 0
    Parts = (is_after before level.cost ≡ true) × ((1 ≤ level.count) × (Admitted × ((index_of level_sums (numbers_of level.phases) ≡ level.count) × (length (costs_at level.cost (costs_of X (choice_of X perm))) ≡ level.count))))

    pub from_parts : Parts → IsLevel X perm before left level
    from_parts (falls, (some, (a, (index, cells)))) =
        let same : a.phases ≡ numbers_of level.phases = sym (numbers_back a.phases) ∙ ap numbers_of a.written in
        record {
          proved = record {
            falls = falls;
            some = some;
            plain = ap (map (worded plain_word)) (sym same) ∙ a.written;
            admitted = subst (λ phases. AreAdmittedPhases level_sums bounded_difference (square_side X) phases square) same a.admitted;
            index = index;
          };
          cells = cells;
        }

    pub to_parts : IsLevel X perm before left level → Parts
    to_parts w = (w.proved.falls, (w.proved.some, (record { phases = numbers_of level.phases; written = w.proved.plain; admitted = w.proved.admitted }, (w.proved.index, w.cells))))

    pub dec_level : Dec (IsLevel X perm before left level)
    dec_level =
        of_iff (from_parts, to_parts)
        (and (Bool-discrete (is_after before level.cost) true)
        (and (dec_some level.count)
        (and (dec_admitted level_sums plain_word (bounded_value (2 ^ 120)) (bounded_word_laws (2 ^ 120)) bounded_difference (square_side X) square level.phases)
        (and (ℕ_discrete (index_of level_sums (numbers_of level.phases)) level.count)
        (ℕ_discrete (length (costs_at level.cost (costs_of X (choice_of X perm)))) level.count)))))

  module _ (levels : List Level) where
    dec_no_level : (n : ℕ) → Dec (IsNoLevelAt X perm levels n)
    dec_no_level n =
        of_iff (λ one. record { level = one.0; there = one.1; fails = one.2 }, λ is. (is.level, is.there, is.fails))
        (dec_there levels n (λ level. ¬ IsLevel X perm (cost_before levels n) (left_before X levels n) level) (λ level. not (dec_level (cost_before levels n) (left_before X levels n) level)))

    -- where no level fails, all are levels
    all_levels : ((n : ℕ) → n < length levels → ¬ IsNoLevelAt X perm levels n) → AreLevelsFrom X perm None (has_cell X Whole) levels
    all_levels none =
        levels_from levels None (has_cell X Whole)
        (λ n level there. dec→stable (dec_level (cost_before levels n) (left_before X levels n) level) (λ fails. none n (slice_get_within levels n level there) (record { level = level; there = there; fails = fails })))

dec_apart : (xs : List ℕ) → Dec (AllPairs ◌≢◌ xs)
dec_apart xs =
    of_iff (
      λ all i j d before within e. all j within i before (get_or_default xs i 0 d (omega (arith, before, within)) ∙ e ∙ get_or_default xs j d 0 within),
      λ apart j within i before e. apart i j 0 before within e,
    )
    (dec_below (λ j. (i : ℕ) → i < j → get_or xs i 0 ≢ get_or xs j 0) (λ j. dec_below (λ i. get_or xs i 0 ≢ get_or xs j 0) (λ i. not (ℕ_discrete (get_or xs i 0) (get_or xs j 0))) j) (length xs))

dec_option : (a b : Option ℕ) → Dec (a ≡ b)
dec_option None None = yes refl
dec_option (Some x) (Some y) = of_iff (ap Some, same_Some x y) (ℕ_discrete x y)
dec_option None (Some y) = no (λ e. absurd (none-some y e))
dec_option (Some x) None = no (λ e. absurd (none-some x (sym e)))

module _ (X : Problem) (choice : List (Option ℕ)) (perm : List ℕ) (levels : List Level) where
  abbrev left_cells : ℕ → ℕ → Option Bool
  left_cells = restricted (left_last X None (has_cell X Whole) levels) (square_cell X false (λ cost. true))

  dec_left : Dec (IsLeftAssignment X perm levels)
  dec_left =
      of_iff (λ parts. record { over = parts.0; apart = parts.1.0; present = parts.1.1 }, λ a. (a.over, (a.apart, a.present)))
      (and (ℕ_discrete (length perm) (square_side X))
      (and (dec_apart perm)
      (dec_below (λ r. is_some (left_cells r (get_or perm r 0)) ≡ true) (λ r. Bool-discrete (is_some (left_cells r (get_or perm r 0))) true) (square_side X))))

  dec_hold_in_all : Dec (HoldInAll X choice perm levels)
  dec_hold_in_all =
      of_iff (λ parts. record { assignment = parts.0; chosen = parts.1.0; total = parts.1.1 }, λ w. (w.assignment, (w.chosen, w.total)))
      (and dec_left
      (and (List-discrete dec_option (choice_of X perm) choice)
      (ℕ_discrete (sum_by (λ (level : Level). level.count) levels) (placed X))))

  dec_columns : Dec (IsColumnList X perm)
  dec_columns =
      of_iff (
        λ parts. record { over = parts.0; apart = parts.1.0; within = λ r d h. subst (λ k. k < square_side X) (get_or_default perm r 0 d h) (below_if _ (parts.1.1 r h)) },
        λ w. (w.over, (w.apart, λ r h. if_below _ (w.within r 0 h))),
      )
      (and (ℕ_discrete (length perm) (square_side X))
      (and (dec_apart perm)
      (dec_below (λ r. nat_lt (get_or perm r 0) (square_side X) ≡ true) (λ r. Bool-discrete (nat_lt (get_or perm r 0) (square_side X)) true) (length perm))))
    where
      below_if : (c : ℕ) → nat_lt c (square_side X) ≡ true → c < square_side X
      below_if c e = ltb-true c (square_side X) e

      if_below : (c : ℕ) → c < square_side X → nat_lt c (square_side X) ≡ true
      if_below c h = lt-ltb c (square_side X) h

  -- ---- what is told

  abbrev Against : Spot → Type 0
  Against = AreBadLevelsAt X choice perm levels

  -- it stands at the number of each place at which this holds
  abbrev Fails : ℕ → Type 0
  Fails = λ n. IsColumnList X perm × IsNoLevelAt X perm levels n

  up : (m n : ℕ) → m ≤ n → suc m ≤ suc n
  up m n le = omega (arith, le)

  stands : (n : ℕ) → Fails n → Against (At (pos (suc n)))
  stands n fails = (fails.0, (n, refl, fails.1))

  found : (place : ℤ) → Against (At place) → (n : ℕ) × (place ≡ pos (suc n)) × Fails n
  found place there = (there.1.0, there.1.1, (there.0, there.1.2))

  -- no list of different columns
  pub no_columns_told : ¬ IsColumnList X perm → IsToldOf Against BadLevel (No 9 (pos 0))
  no_columns_told none = whole_told Against Fails suc up stands found BadLevel (λ n fails. none fails.0) (λ w. none (columns_of_left X perm levels w.assignment))

  -- all are levels, and they don't hold in all
  pub not_in_all_told : ((n : ℕ) → ¬ IsNoLevelAt X perm levels n) → ¬ HoldInAll X choice perm levels → IsToldOf Against BadLevel (No 9 (pos 0))
  not_in_all_told none = whole_told Against Fails suc up stands found BadLevel (λ n fails. none n fails.1)

  -- nothing stands where all are levels, and hold in all
  hold_nowhere : ((n : ℕ) → ¬ IsNoLevelAt X perm levels n) → HoldInAll X choice perm levels → Nowhere Against
  hold_nowhere none holds = none_there Against Fails suc up stands found (λ n fails. none n fails.1) (λ fails. fails holds)

  pub levels_nowhere : ProvesLevels X choice perm levels → Nowhere Against
  levels_nowhere w =
      hold_nowhere
      (λ n one. one.fails (level_at X perm levels None (has_cell X Whole) w.levels_hold n one.level one.there))
      (record { assignment = w.assignment; chosen = w.chosen; total = w.total })

  pub within_all : ((n : ℕ) → n < length levels → ¬ IsNoLevelAt X perm levels n) → (n : ℕ) → ¬ IsNoLevelAt X perm levels n
  within_all none n one = none n (slice_get_within levels n one.level one.there) one

  pub tested_levels : Tested Against BadLevel
  tested_levels =
      tested_parts Against Fails suc up stands found BadLevel (length levels) (λ n fails. slice_get_within levels n fails.1.level fails.1.there)
      (λ n. and dec_columns (dec_no_level X perm levels n)) (not dec_hold_in_all)

  -- where nothing stands against them, they prove the choice
  proves_from_nowhere : Nowhere Against → ProvesLevels X choice perm levels
  proves_from_nowhere none =
      let holds = dec→stable dec_hold_in_all (none Overall) in
      let columns = columns_of_left X perm levels holds.assignment in
      record {
        levels_hold = all_levels X perm levels (λ n h one. none (At (pos (suc n))) (columns, (n, refl, one)));
        assignment = holds.assignment;
        chosen = holds.chosen;
        total = holds.total;
      }

  -- a verdict on an assignment with levels: at a level, for the whole, or none
  pub level_tells : (n : ℕ) → IsColumnList X perm → IsNoLevelAt X perm levels n → ((m : ℕ) → m < n → ¬ IsNoLevelAt X perm levels m) → Tells (LevelsStand X choice perm levels) level_reasons (No 9 (pos (suc n)))
  level_tells n columns fails first = inl (first_told Against Fails suc up stands found BadLevel n (columns, fails) (λ m less before. first m less before.1))

  pub hold_tells : ((n : ℕ) → n < length levels → ¬ IsNoLevelAt X perm levels n) → HoldInAll X choice perm levels → Tells (LevelsStand X choice perm levels) level_reasons Yes
  hold_tells none holds = inr (hold_nowhere (within_all none) holds, refl)

-- only `lex` has level proofs
pub ranks_prove : (objective : Objective) (X : Problem) (choice : List (Option ℕ)) (perm : List ℕ) (levels : List Level) → ProvesRanks objective X choice perm levels → ProvesLevels X choice perm levels
ranks_prove Lex X choice perm levels w = w
ranks_prove objective X choice perm levels w = absurd w

pub levels_prove : (objective : Objective) (X : Problem) (choice : List (Option ℕ)) (perm : List ℕ) (levels : List Level) → IsTrue (is_rank_objective objective) → Nowhere (AreBadLevelsAt X choice perm levels) → ProvesRanks objective X choice perm levels
levels_prove Lex X choice perm levels fits none = proves_from_nowhere X choice perm levels none
levels_prove objective X choice perm levels fits none = absurd (false≢true fits)
