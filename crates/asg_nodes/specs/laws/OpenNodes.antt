-- Which nodes are open.
use Rattle.std.proofs.Common.{◌≡◌, ℕ, ◌<◌, ◌≤◌, true, cond, ◌&&◌, List, length, refl, sym, ◌∙◌, ap, arith, ⊎_elim}
use Rattle.std.specs.Prelude.{IsTrue, nat_le}
use Rattle.std.proofs.lemmas.Bool.{cases_lt, false≢true, le-leb, lt-leb, leb-true, cond-true, cond-false, and_parts}
use Rattle.asg_nodes.specs.declared.entries.Entry.{Entry}
use Rattle.asg_nodes.specs.declared.entries.State.{State}
use Rattle.asg_nodes.specs.declared.entries.State.TheVariants.{Answered, Open, Empty}
use Rattle.asg_nodes.specs.Entries.{entry_at, is_open_state, is_open_at}

pub state_open : (s : State) → is_open_state s ≡ true → s ≡ Open
state_open (Answered a) h = absurd (false≢true h)
state_open Open h = refl
state_open (Empty p) h = absurd (false≢true h)

module _ {V : Type 0} (unit : V) (entries : List (Entry V)) where
  module _ (high m : ℕ) where
    pub open_from : IsTrue (is_open_at unit entries high m) → 1 ≤ m
    open_from h = leb-true 1 m (and_parts (nat_le 1 m) (cond (nat_le m (length entries)) (is_open_state (entry_at unit entries m).state) (nat_le m high)) h).0

    -- a node that is there is open by its state
    pub is_open_inside : 1 ≤ m → m ≤ length entries → is_open_at unit entries high m ≡ is_open_state (entry_at unit entries m).state
    is_open_inside low h =
        ap (λ b. b && cond (nat_le m (length entries)) (is_open_state (entry_at unit entries m).state) (nat_le m high)) (le-leb 1 m low)
        ∙ cond-true (nat_le m (length entries)) (is_open_state (entry_at unit entries m).state) (nat_le m high) (le-leb m (length entries) h)

    -- one that is to come is, up to a number
    pub is_open_outside : length entries < m → is_open_at unit entries high m ≡ nat_le m high
    is_open_outside h =
        ap (λ b. b && cond (nat_le m (length entries)) (is_open_state (entry_at unit entries m).state) (nat_le m high)) (le-leb 1 m (omega (arith, h)))
        ∙ cond-false (nat_le m (length entries)) (is_open_state (entry_at unit entries m).state) (nat_le m high) (lt-leb m (length entries) h)

  module _ (m : ℕ) where
    -- where none is to come
    pub open_within : IsTrue (is_open_at unit entries (length entries) m) → (1 ≤ m) × (m ≤ length entries) × ((entry_at unit entries m).state ≡ Open)
    open_within h =
        let low = open_from (length entries) m h in
        let high : m ≤ length entries = (⊎_elim
        (λ (late : length entries < m). let u = leb-true m (length entries) (sym (is_open_outside (length entries) m late) ∙ h) in absurd (omega (arith, late, u)))
        (λ (early : m ≤ length entries). early)
        (cases_lt (length entries) m)) in
        (low, high, state_open (entry_at unit entries m).state (sym (is_open_inside (length entries) m low high) ∙ h))

    pub open_here : 1 ≤ m → m ≤ length entries → (entry_at unit entries m).state ≡ Open → IsTrue (is_open_at unit entries (length entries) m)
    open_here low high is = is_open_inside (length entries) m low high ∙ ap is_open_state is
