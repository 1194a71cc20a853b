-- Nodes with one more behind them, and with another state of one.
use Rattle.std.proofs.Common.{◌≡◌, ◌≢◌, ℕ, ◌+◌, ◌-◌, ◌*◌, ◌≤◌, List, [], ◌∷◌, ◌++◌, length, get_or, sym, ◌∙◌, ap, arith, ⊎_elim}
use Rattle.std.proofs.lemmas.Bool.{cases_eq}
use Rattle.std.proofs.Math.Seq.{get_or-append_seam}
use Rattle.std.proofs.lemmas.List.{length-append, length-set, get_or_append_left, get_or-set_same, get_or-set_other}
use Rattle.asg_nodes.specs.declared.entries.Entry.{Entry}
use Rattle.asg_nodes.specs.declared.entries.State.{State}
use Rattle.asg_nodes.specs.Entries.{blank, entry_at, with_state}

-- as many for each of one more
pub add_one_times : (a b : ℕ) → (a + 1) * b ≡ a * b + b
add_one_times a b = grind (arith)

module _ {V : Type 0} (unit : V) (entries : List (Entry V)) where
  module _ (e : Entry V) where
    pub entry_before : (n : ℕ) → 1 ≤ n → n ≤ length entries → entry_at unit (entries ++ e ∷ []) n ≡ entry_at unit entries n
    entry_before n from upto = get_or_append_left entries (e ∷ []) (blank unit) (n - 1) (omega (arith, from, upto))

    pub entry_last : entry_at unit (entries ++ e ∷ []) (length entries + 1) ≡ e
    entry_last =
        let place : length entries + 1 - 1 ≡ length entries = omega arith in
        ap (λ k. get_or (entries ++ e ∷ []) k (blank unit)) place ∙ get_or-append_seam entries e [] (blank unit)

    pub count_more : length (entries ++ e ∷ []) ≡ length entries + 1
    count_more = omega (arith, length-append entries (e ∷ []))

  module _ (n : ℕ) (from : 1 ≤ n) (upto : n ≤ length entries) (s : State) where
    pub entry_changed : entry_at unit (with_state unit entries n s) n ≡ record (entry_at unit entries n) { state = s }
    entry_changed = get_or-set_same entries (n - 1) (record (entry_at unit entries n) { state = s }) (blank unit) (omega (arith, from, upto))

    pub entry_other : (m : ℕ) → 1 ≤ m → m ≢ n → entry_at unit (with_state unit entries n s) m ≡ entry_at unit entries m
    entry_other m first other =
        get_or-set_other entries (n - 1) (m - 1) (record (entry_at unit entries n) { state = s }) (blank unit)
        (λ (e : m - 1 ≡ n - 1). other (omega (arith, e, from, first)))

    pub count_same : length (with_state unit entries n s) ≡ length entries
    count_same = length-set entries (n - 1) (record (entry_at unit entries n) { state = s })

    -- the trails and the indexes stay
    pub entry_kept : {A : Type 0} (part : Entry V → A) → ((e : Entry V) → part (record e { state = s }) ≡ part e) → (m : ℕ) → 1 ≤ m → part (entry_at unit (with_state unit entries n s) m) ≡ part (entry_at unit entries m)
    entry_kept part same m first =
        ⊎_elim
        (λ (here : m ≡ n).
        ap (λ k. part (entry_at unit (with_state unit entries n s) k)) here ∙ ap part entry_changed ∙ same (entry_at unit entries n) ∙ ap (λ k. part (entry_at unit entries k)) (sym here))
        (λ (other : m ≡ n → ⊥). ap part (entry_other m first other))
        (cases_eq m n)
