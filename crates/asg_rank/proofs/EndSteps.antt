-- What is left where every valid choice was given, or as many as were asked for.
use Rattle.asg_rank.proofs.Common.{◌≡◌, ℕ, ◌+◌, ◌-◌, ◌*◌, ◌<◌, ◌≤◌, ◌⊎◌, ◌↔◌, List, [], length, IsTrue, Contains, Option, sym, ◌∙◌, subst, inl, inr, ⊎_elim, arith, cases_eq, cases_lt, winner_in, IsBehind, IsKept, IsSearch, placed, IsInstance, Problem, IsValid, Cost, entry_at, is_open_at, Rules, IsSolved, SlotList, slot_of, slot_at, Open, Tree, open_within, open_here, part_instance, part_valid, choice_fold, IsLe, IsOrderedMonoid, IsExhausted, answer_room, last_answer, IsSquareChoice}
use Rattle.asg_nodes.specs.laws.ChoiceSteps.{some_choice}

module _ {V : Type 0} (R : Rules V) (X : Problem) (given : List (List (Option ℕ))) (slots : SlotList V) (T : Tree V) (search : IsSearch R X (length T.entries.items) given slots T) where
  -- where no node is kept, there is room for no more answers, or every valid choice was given
  pub nothing_left : length given ≡ length slots.used → (length given ≡ slots.room) ⊎ ((g : List (Option ℕ)) → IsValid X g → Contains given g)
  nothing_left none =
      ⊎_elim
      (λ (full : length slots.used ≡ slots.room). inl (none ∙ full))
      (λ (less : length slots.used ≡ slots.room → ⊥).
      inr (λ g valid.
      ⊎_elim
      (λ (there : Contains given g). there)
      (λ (at : (n : ℕ) × IsTrue (is_open_at R.monoid.unit T.entries.items (length T.entries.items) n) × IsValid (search.part n) g).
      let w = open_within R.monoid.unit T.entries.items at.0 at.1 in
      ⊎_elim
      (λ (kept : IsKept R.monoid.unit (length given) slots.used at.0). absurd (let from = kept.from in let upto = kept.upto in omega (arith, from, upto, none)))
      (λ (behind : IsBehind R.monoid slots (entry_at R.monoid.unit T.entries.items at.0).index). absurd (less behind.full))
      (search.kept.left at.0 w.0 w.1 w.2))
      (search.tree.frontier.whole g valid)))
      (cases_eq (length slots.used) slots.room)

  module _ (laws : IsOrderedMonoid R.monoid) (instance : IsInstance X) (choices : (Z : Problem) (free : V) (enter : Cost → V) (f : List (Option ℕ)) → IsInstance Z → IsValid Z f ↔ IsSquareChoice Z free enter f) where
    -- a kept node has a valid choice that wasn't given
    pub kept_choice : (j : ℕ) → length given ≤ j → j < length slots.used → (f : List (Option ℕ)) × IsValid X f × ¬ Contains given f
    kept_choice j from upto =
        let slot = search.kept.each j upto in
        let n = winner_in R.monoid.unit slots.used j in
        let before : (a : ℕ) → a < length given → (1 ≤ winner_in R.monoid.unit slots.used a) × (winner_in R.monoid.unit slots.used a ≤ 1 + a * placed X) = λ a h. (let w = search.tree.winners a h in (w.from, w.upto)) in
        let high : n ≤ 1 + length given * placed X = (let e = search.tree.upto_is in let u = slot.upto in omega (arith, e, u)) in
        let leads = (search.tree.nodes n slot.from slot.upto).leads in
        let some = some_choice R laws T.region (search.part n) (part_instance X given (winner_in R.monoid.unit slots.used) search.part search.tree.parts before n slot.from high instance) (entry_at R.monoid.unit T.entries.items n).trail (entry_at R.monoid.unit T.entries.items n).index leads
        (slot_at R.monoid.unit slots.used j).matching (subst (λ z. IsSolved R T.region (search.part n) (entry_at R.monoid.unit T.entries.items n).trail z (slot_at R.monoid.unit slots.used j).matching) slot.index_is slot.solved) choices in (
          some.0,
          part_valid X given (winner_in R.monoid.unit slots.used) search.part search.tree.parts before n slot.from high some.0 some.1,
          search.tree.frontier.fresh some.0 n (open_here R.monoid.unit T.entries.items n slot.from slot.upto (search.kept.open_nodes j from upto)) some.1,
        )

    module _ (count : ℕ) (room_is : slots.room ≡ answer_room X count) (fits : length slots.used ≤ slots.room) (done : IsExhausted X count given) where
      -- no node is kept then
      pub none_kept : length slots.used ≡ length given
      none_kept =
          let few = search.kept.few in
          ⊎_elim
          (λ (more : length given < length slots.used).
          let f = kept_choice (length given) (omega arith) more in
          ⊎_elim
          (λ (all : length given ≡ count). absurd (omega (arith, all, more, fits, room_is)))
          (λ (every : (g : List (Option ℕ)) → IsValid X g → Contains given g). absurd (f.2 (every f.0 f.1)))
          done)
          (λ (upto : length slots.used ≤ length given). omega (arith, few, upto))
          (cases_lt (length given) (length slots.used))

      -- an open node lies behind all answers, and there is room for no more
      pub open_behind : (n : ℕ) → 1 ≤ n → n ≤ length T.entries.items → (entry_at R.monoid.unit T.entries.items n).state ≡ Open → IsBehind R.monoid slots (entry_at R.monoid.unit T.entries.items n).index
      open_behind n low high is =
          ⊎_elim
          (λ (kept : IsKept R.monoid.unit (length given) slots.used n). absurd (let from = kept.from in let upto = kept.upto in let none = none_kept in omega (arith, from, upto, none)))
          (λ (behind : IsBehind R.monoid slots (entry_at R.monoid.unit T.entries.items n).index). behind)
          (search.kept.left n low high is)

  -- the product of the last answer is at most the index of a node that lies behind all slots
  pub last_le : 1 ≤ length given → (index : V) → length given ≤ length slots.used → IsBehind R.monoid slots index → IsLe R.monoid (choice_fold R.monoid R.enter X (last_answer given)) index
  last_le some index few behind =
      let a = length given - 1 in
      let answer = search.answers a (omega (arith, some)) in
      subst (λ z. IsLe R.monoid z index) (sym answer.worth) (behind.upto a (slot_of 0 R.monoid.unit []) (omega (arith, some, few)))
