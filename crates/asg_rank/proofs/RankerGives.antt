-- What a ranker gives: its next answer, and the Hall set of its root.
use Rattle.asg_rank.proofs.Common.{◌≡◌, ℕ, ◌-◌, ◌^◌, ◌<◌, ◌≤◌, ◌≢◌, ◌↔◌, List, [], length, get_or, take, All, Option, AllPairs, sym, refl, ap, ◌∙◌, subst, arith, get_or-take, get_or_default, winner_in, given_of, IsReady, Search, placed, IsHall, IsInstance, Problem, IsValid, Whole, Objective, Cost, blank, entry_at, HallSets, Rules, given_at, HasState, NamesHall, hall_in, Entry, State, Answered, Open, Empty, AreBefore, part_valid, Bridges, IsOrderedMonoid, lies_within, GivesLeast, IsRanker, Gives, IsExhausted, answer_room, Next, answer_at, IsSquareChoice}
use Rattle.asg_rank.proofs.EndSteps.{none_kept, open_behind}
use Rattle.asg_rank.proofs.RankingSteps.{IsBridged, gives}
use Rattle.asg_model.specs.declared.parts.Place.TheVariants.{All as PlaceAll}

-- node number 1, whatever stands for none
pub first_entry : {V : Type 0} (u w : V) (entries : List (Entry V)) → 1 ≤ length entries → entry_at u entries 1 ≡ entry_at w entries 1
first_entry u w entries some = get_or_default entries 0 (blank u) (blank w) some

-- the answer of a number among the first choices
pub choice_at : (choices given : List (List (Option ℕ))) (n i : ℕ) → given ≡ take n choices → 1 ≤ i → i ≤ n → get_or choices (i - 1) [] ≡ answer_at given i
choice_at choices given n i is from upto = sym (ap (λ xs. get_or xs (i - 1) []) is ∙ get_or-take n choices (i - 1) [] (omega (arith, from, upto)))

-- a node that isn't open, where no answer was given, names a Hall set of its part
names_hall : (given : List (List (Option ℕ))) (winner : ℕ → ℕ) (halls : HallSets) (Y : Problem) (n : ℕ) (s : State) → given ≡ [] → (s ≡ Open → ⊥) → HasState given winner halls Y n s → NamesHall halls s × IsHall Y Whole (hall_in halls s)
names_hall given winner halls Y n (Answered b) none shut is =
    let less = is.2 in
    let zero_given : length given ≡ 0 = ap (λ (xs : List (List (Option ℕ))). length xs) none in
    absurd (omega (arith, less, zero_given))
names_hall given winner halls Y n Open none shut is = absurd (shut refl)
names_hall given winner halls Y n (Empty h) none shut is = (is.0, is.1)

module _ {V : Type 0} (R : Rules V) (objective : Objective) (reach : ℕ) (X : Problem) (count : ℕ) (S : Search V) (ranker : IsRanker R objective reach X count S) (instance : IsInstance X) where
  before : AreBefore (placed X) (length (given_of S)) (winner_in R.monoid.unit S.slots.used)
  before a h = let w = ranker.ready.search.tree.winners a h in (w.from, w.upto)

  answer_valid : (a : ℕ) → a < length (given_of S) → IsValid X (given_at (given_of S) a)
  answer_valid a h =
      let search = ranker.ready.search in
      let w = search.tree.winners a h in
      let t = w.there in
      let e = search.tree.upto_is in
      part_valid X (given_of S) (winner_in R.monoid.unit S.slots.used) search.part search.tree.parts before (winner_in R.monoid.unit S.slots.used a) w.from (omega (arith, t, e)) (given_at (given_of S) a) (search.answers a h).valid

  given_valid : All (IsValid X) (given_of S)
  given_valid k d h = subst (IsValid X) (get_or_default (given_of S) k [] d h) (answer_valid k h)

  -- the next answer is best of those that weren't given
  pub next_gives : Bridges R.monoid R.enter objective reach → ((Z : Problem) (fs : List (List (Option ℕ))) → Z.place ≡ PlaceAll → All (IsValid Z) fs → AllPairs ◌≢◌ fs → length fs ≤ length Z.columns ^ placed Z) → (after : List (List (Option ℕ))) (result : Next) → GivesLeast R X (answer_room X count) (given_of S) after result → Gives objective X count (given_of S) after result
  next_gives bridges counting after result least =
      gives R objective X (bridged bridges) (λ fs valid apart. counting X fs ranker.ready.rankable.place valid apart) count (given_of S) after result given_valid ranker.ready.search.different least
    where
      bridged : Bridges R.monoid R.enter objective reach → IsBridged R objective X
      bridged bridges f g valid_f valid_g = bridges X f g instance.well_formed.few_rows (lies_within reach X ranker.reaches instance) ranker.passes valid_f valid_g

  -- it is ready for the next one
  pub ranker_next : (U : Search V) → IsReady R X (answer_room X count) U → IsRanker R objective reach X count U
  ranker_next U ready = record { ready = ready; passes = ranker.passes; reaches = ranker.reaches; some = ranker.some }

  module _ (none : given_of S ≡ []) (done : IsExhausted X count (given_of S)) (laws : IsOrderedMonoid R.monoid)
      (choices : (Z : Problem) (free : V) (enter : Cost → V) (f : List (Option ℕ)) → IsInstance Z → IsValid Z f ↔ IsSquareChoice Z free enter f)
    where
      root_shut : (entry_at R.monoid.unit S.tree.entries.items 1).state ≡ Open → ⊥
      root_shut is =
          let search = ranker.ready.search in
          let fits = ranker.ready.memory.used_fit in
          let some = ranker.some in
          let room_is = ranker.ready.room_is in
          let empty : length (given_of S) ≡ 0 = ap (λ (xs : List (List (Option ℕ))). length xs) none in
          let used = none_kept R X (given_of S) S.slots S.tree search laws instance choices count room_is fits done in
          let full = (open_behind R X (given_of S) S.slots S.tree search laws instance choices count room_is fits done 1 (omega arith) search.tree.some is).full in
          omega (arith, used, full, empty, some, room_is)

      root_is : NamesHall S.tree.halls (entry_at R.monoid.unit S.tree.entries.items 1).state × IsHall X Whole (hall_in S.tree.halls (entry_at R.monoid.unit S.tree.entries.items 1).state)
      root_is =
          let search = ranker.ready.search in
          let state = (entry_at R.monoid.unit S.tree.entries.items 1).state in
          let is = names_hall (given_of S) (winner_in R.monoid.unit S.slots.used) S.tree.halls (search.part 1) 1 state none root_shut (search.tree.nodes 1 (omega arith) search.tree.some).state_is in
          (is.0, subst (λ Y. IsHall Y Whole (hall_in S.tree.halls state)) search.tree.parts.root is.1)

      -- the root names a Hall set of the instance
      pub root_names : (u : V) → NamesHall S.tree.halls (entry_at u S.tree.entries.items 1).state
      root_names u = subst (λ (e : Entry V). NamesHall S.tree.halls e.state) (first_entry R.monoid.unit u S.tree.entries.items ranker.ready.search.tree.some) root_is.0

      pub root_hall_is : IsHall X Whole (hall_in S.tree.halls (entry_at R.monoid.unit S.tree.entries.items 1).state)
      root_hall_is = root_is.1
