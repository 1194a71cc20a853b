-- Leads that are offered keys, and the least of them.
use Rattle.std.proofs.Common.{◌≡◌, ◌↔◌, ◌⊎◌, inl, inr, ℕ, ◌/◌, ◌%◌, ◌<◌, cond, eqb, List, length, Some, None, get_or, set, refl, sym, ◌∙◌, ap, subst, arith, ⊎_elim}
use Rattle.std.specs.Int.{bit_at}
use Rattle.std.proofs.lemmas.List.{get_or-set_same, get_or-set_other, length-set}
use Rattle.std.proofs.lemmas.Nat.Bits.{bit_at-lt}
use Rattle.std.proofs.lemmas.Option.{none-some}
use Rattle.asg_match.specs.ColumnSet.{HasColumn}
use Rattle.asg_order.specs.Monoid.{Monoid, IsLe}
use Rattle.asg_growth.specs.Leads.{Leads, lead_at, place_at, KeepsLead, IsOffered, Relaxes}
use Rattle.asg_growth.specs.Scanned.{IsSoon}
use Rattle.asg_growth.specs.laws.WordLemmas.{cases_column}

module _ {V : Type 0} (M : Monoid V) where
  pub lead_there : (leads : Leads V) (k : ℕ) → HasColumn leads.keyed k → lead_at M leads k ≡ Some (get_or leads.keys k M.unit)
  lead_there leads k has = ap (λ b. cond (eqb b 1) (Some (get_or leads.keys k M.unit)) None) has

  pub lead_none : (leads : Leads V) (k : ℕ) → (HasColumn leads.keyed k → ⊥) → lead_at M leads k ≡ None
  lead_none leads k none =
      let zero : bit_at (get_or leads.keyed (k / 64) 0) (k % 64) ≡ 0 =
      ⊎_elim (λ has. absurd (none has)) (λ other. omega (arith, other, bit_at-lt (get_or leads.keyed (k / 64) 0) (k % 64))) (cases_column leads.keyed k) in
      ap (λ b. cond (eqb b 1) (Some (get_or leads.keys k M.unit)) None) zero

  pub lead_has : (leads : Leads V) (k : ℕ) (x : V) → lead_at M leads k ≡ Some x → HasColumn leads.keyed k
  lead_has leads k x e =
      ⊎_elim (λ has. has) (λ none. absurd (none-some x (sym (lead_none leads k none) ∙ e))) (cases_column leads.keyed k)

  -- two sets of leads that agree at a column
  pub lead_same : (before after : Leads V) (k : ℕ) → (HasColumn after.keyed k ↔ HasColumn before.keyed k) → get_or after.keys k M.unit ≡ get_or before.keys k M.unit → lead_at M after k ≡ lead_at M before k
  lead_same before after k iff e =
      ⊎_elim
      (λ has. lead_there after k (iff.1 has) ∙ ap Some e ∙ sym (lead_there before k has))
      (λ none. lead_none after k (λ has. none (iff.0 has)) ∙ sym (lead_none before k none))
      (cases_column before.keyed k)

  module _ (values : List V) (sum : V) (place : ℕ) where
    -- no column was looked at
    pub Relaxes-none : (leads : Leads V) (p : ℕ → Type 0) → ((k : ℕ) → p k → ⊥) → Relaxes M values sum place p leads leads
    Relaxes-none leads p none = record {
      keys_side = refl;
      keyed_side = refl;
      places_side = refl;
      looked_at = λ k h. absurd (none k h);
      others = λ k _. record { lead = refl; place = refl };
    }

    -- columns whose keys are at most what they would be offered were looked at, and keep them
    pub Relaxes-soon : (leads : Leads V) (p : ℕ → Type 0) → ((k : ℕ) → p k → IsSoon M values sum leads k) → Relaxes M values sum place p leads leads
    Relaxes-soon leads p soon = record {
      keys_side = refl;
      keyed_side = refl;
      places_side = refl;
      looked_at = λ k h. let is = soon k h in inr (is.0, is.1, is.2, record { lead = refl; place = refl });
      others = λ k _. record { lead = refl; place = refl };
    }

    KeepsLead-join : (first second third : Leads V) (k : ℕ) → KeepsLead M first second k → KeepsLead M second third k → KeepsLead M first third k
    KeepsLead-join first second third k a b = record { lead = b.lead ∙ a.lead; place = b.place ∙ a.place }

    offered_later : (first second third : Leads V) (key : V) (k : ℕ) → IsOffered M key place first second k → KeepsLead M second third k → IsOffered M key place first third k
    offered_later first second third key k offered keeps =
        ⊎_elim
        (λ new. inl (keeps.lead ∙ new.0, keeps.place ∙ new.1, new.2))
        (λ old. inr (old.0, old.1, old.2, KeepsLead-join first second third k old.3 keeps))
        offered

    offered_before : (first second third : Leads V) (key : V) (k : ℕ) → KeepsLead M first second k → IsOffered M key place second third k → IsOffered M key place first third k
    offered_before first second third key k keeps offered =
        ⊎_elim
        (λ new. inl (new.0, new.1, λ old e. new.2 old (keeps.lead ∙ e)))
        (λ old. inr (old.0, sym keeps.lead ∙ old.1, old.2, KeepsLead-join first second third k keeps old.3))
        offered

    -- some columns were looked at, and then others
    pub Relaxes-join : (first second third : Leads V) (p q r : ℕ → Type 0) → ((k : ℕ) → p k → q k → ⊥) → ((k : ℕ) → r k → p k ⊎ q k) → ((k : ℕ) → p k → r k) → ((k : ℕ) → q k → r k) → Relaxes M values sum place p first second → Relaxes M values sum place q second third → Relaxes M values sum place r first third
    Relaxes-join first second third p q r apart cases left right a b = record {
      keys_side = b.keys_side ∙ a.keys_side;
      keyed_side = b.keyed_side ∙ a.keyed_side;
      places_side = b.places_side ∙ a.places_side;
      looked_at = λ k h.
          let key = M.product sum (get_or values k M.unit) in
          ⊎_elim
          (λ in_p. offered_later first second third key k (a.looked_at k in_p) (b.others k (λ in_q. apart k in_p in_q)))
          (λ in_q. offered_before first second third key k (a.others k (λ in_p. apart k in_p in_q)) (b.looked_at k in_q))
          (cases k h);
      others = λ k none. KeepsLead-join first second third k (a.others k (λ h. none (left k h))) (b.others k (λ h. none (right k h)));
    }

    -- a column took a key
    pub Relaxes-given : (before after : Leads V) (column : ℕ) (key : V) → column < length before.keys → column < length before.places → key ≡ M.product sum (get_or values column M.unit) → ((old : V) → lead_at M before column ≡ Some old → IsLe M key old) → after.keys ≡ set before.keys column key → after.places ≡ set before.places column place → length after.keyed ≡ length before.keyed → ((k : ℕ) → HasColumn after.keyed k ↔ (HasColumn before.keyed k ⊎ (k ≡ column))) → Relaxes M values sum place (λ k. k ≡ column) before after
    Relaxes-given before after column key hk hp is low keys places keyed_side keyed =
        let at : get_or after.keys column M.unit ≡ key = ap (λ xs. get_or xs column M.unit) keys ∙ get_or-set_same before.keys column key M.unit hk in
        let here : lead_at M after column ≡ Some (M.product sum (get_or values column M.unit)) = lead_there after column ((keyed column).1 (inr refl)) ∙ ap Some (at ∙ is) in
        let put : place_at after column ≡ place = ap (λ xs. get_or xs column 0) places ∙ get_or-set_same before.places column place 0 hp in
        record {
          keys_side = ap length keys ∙ length-set before.keys column key;
          keyed_side = keyed_side;
          places_side = ap length places ∙ length-set before.places column place;
          looked_at = λ k e.
              subst (λ j. IsOffered M (M.product sum (get_or values j M.unit)) place before after j) (sym e)
              (inl (here, put, λ old f. subst (λ y. IsLe M y old) is (low old f)));
          others = λ k ne. record {
            lead = lead_same before after k
                (λ has. ⊎_elim (λ h. h) (λ e. absurd (ne e)) ((keyed k).0 has), λ has. (keyed k).1 (inl has))
                (ap (λ xs. get_or xs k M.unit) keys ∙ get_or-set_other before.keys column k key M.unit ne);
            place = ap (λ xs. get_or xs k 0) places ∙ get_or-set_other before.places column k place 0 ne;
          };
        }

    -- a column kept its key
    pub Relaxes-kept : (leads : Leads V) (column : ℕ) (key : V) → key ≡ M.product sum (get_or values column M.unit) → ((old : V) × (lead_at M leads column ≡ Some old) × IsLe M old key) → Relaxes M values sum place (λ k. k ≡ column) leads leads
    Relaxes-kept leads column key is low = record {
      keys_side = refl;
      keyed_side = refl;
      places_side = refl;
      looked_at = λ k e.
          subst (λ j. IsOffered M (M.product sum (get_or values j M.unit)) place leads leads j) (sym e)
          (inr (low.0, low.1, subst (IsLe M low.0) is low.2, record { lead = refl; place = refl }));
      others = λ k _. record { lead = refl; place = refl };
    }

    -- the same columns were looked at
    pub Relaxes-iff : (before after : Leads V) (p q : ℕ → Type 0) → ((k : ℕ) → p k → q k) → ((k : ℕ) → q k → p k) → Relaxes M values sum place p before after → Relaxes M values sum place q before after
    Relaxes-iff before after p q to from a = record {
      keys_side = a.keys_side;
      keyed_side = a.keyed_side;
      places_side = a.places_side;
      looked_at = λ k h. a.looked_at k (from k h);
      others = λ k none. a.others k (λ h. none (to k h));
    }
