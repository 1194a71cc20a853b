-- The nearest of some columns, when columns come to them or take keys.
use Rattle.std.proofs.Common.{◌≡◌, ◌↔◌, ◌⊎◌, inl, inr, ℕ, ◌/◌, ◌<◌, List, length, Option, Some, None, get_or, set, replicate, refl, sym, ◌∙◌, ap, subst, arith, ⊎_elim}
use Rattle.std.proofs.lemmas.Bool.{cases_eq}
use Rattle.std.proofs.lemmas.List.{get_or-replicate, get_or-set_same, get_or-set_other, length-replicate, length-set}
use Rattle.std.proofs.lemmas.Grind.{get_or-set_at}
use Rattle.std.proofs.lemmas.Option.{none-some, same_Some}
use Rattle.asg_match.specs.ColumnSet.{HasColumn}
use Rattle.asg_order.specs.Monoid.{Monoid, IsValue, IsLe, IsOrderedMonoid}
use Rattle.asg_order.specs.laws.Orders.{reflexive}
use Rattle.asg_growth.specs.Leads.{Leads, lead_at, IsLeast, Picks}
use Rattle.asg_growth.specs.Nearest.{IsWithin, AreNearest, HasKey, IsNoFarther, IsNearer, IsNearest}
use Rattle.asg_growth.specs.laws.LeadLemmas.{lead_there, lead_has}

-- a column has a new key, which is at most the one that it had
pub record HasTaken {V : Type 0} (M : Monoid V) (before after : Leads V) (column : ℕ) : Type 0 where
  pub key : V
  pub keys : after.keys ≡ set before.keys column key
  pub has : lead_at M after column ≡ Some key
  pub is_value : IsValue M key
  pub low : (old : V) → lead_at M before column ≡ Some old → IsLe M key old

-- no key changed, or a column took one and was compared with the nearest one so far
abbrev pub IsApproached : {V : Type 0} → Monoid V → Leads V → Leads V → ℕ → Option ℕ → Option ℕ → Type 0
IsApproached M before after column former result =
    (((k : ℕ) → lead_at M after k ≡ lead_at M before k) × (result ≡ former))
    ⊎ (HasTaken M before after column × IsNearer M after.keys former column result)

-- a column of a set in a word before the one of this number
pub record IsBelow (number : ℕ) (words : List ℕ) (k : ℕ) : Type 0 where
  pub before : k / 64 < number
  pub there : HasColumn words k

module _ {V : Type 0} (M : Monoid V) where
  -- a column is picked among the same columns, with the same keys
  pub Picks-same : (before after : ℕ → Option V) (p q : ℕ → Type 0) (found : Option ℕ) → ((k : ℕ) → p k → q k) → ((k : ℕ) → q k → p k) → ((k : ℕ) → p k → after k ≡ before k) → Picks M before p found → Picks M after q found
  Picks-same before after p q None to from same is = λ k h. same k (from k h) ∙ is k (from k h)
  Picks-same before after p q (Some column) to from same is = record {
    among = to column is.among;
    key = is.key;
    has = same column is.among ∙ is.has;
    least = λ k other h e. is.least k other (from k h) (sym (same k (from k h)) ∙ e);
  }

  -- the key that is read is the lead
  pub key_is : (leads : Leads V) (k : ℕ) (key : V) → lead_at M leads k ≡ Some key → get_or leads.keys k M.unit ≡ key
  key_is leads k key e = same_Some (get_or leads.keys k M.unit) key (sym (lead_there M leads k (lead_has M leads k key e)) ∙ e)

  -- a picked column has a key
  pub Picks-key : (leads : Leads V) (p : ℕ → Type 0) (found : Option ℕ) → Picks M (lead_at M leads) p found → ((k : ℕ) → p k → k < length leads.keys) → ((k : ℕ) (key : V) → p k → lead_at M leads k ≡ Some key → IsValue M key) → (column : ℕ) → found ≡ Some column → HasKey M leads.keys column
  Picks-key leads p found is within values column e =
      let w = subst (Picks M (lead_at M leads) p) e is in
      record {
        within = within column w.among;
        value = subst (IsValue M) (sym (key_is leads column w.key w.has)) (values column w.key w.among w.has);
      }

  -- a column has a key after some column took one
  pub HasKey-set : (keys : List V) (column : ℕ) (key : V) → column < length keys → IsValue M key → (k : ℕ) → HasKey M keys k → HasKey M (set keys column key) k
  HasKey-set keys column key h value k has = record {
    within = subst (λ n. k < n) (sym (length-set keys column key)) has.within;
    value =
        ⊎_elim
        (λ same. subst (IsValue M) (sym (get_or-set_at keys column k key M.unit same h)) value)
        (λ other. subst (IsValue M) (sym (get_or-set_other keys column k key M.unit other)) has.value)
        (cases_eq k column);
  }

  -- a column has the key that it took
  pub HasKey-given : (keys : List V) (column : ℕ) (key : V) → column < length keys → IsValue M key → HasKey M (set keys column key) column
  HasKey-given keys column key h value = record {
    within = subst (λ n. column < n) (sym (length-set keys column key)) h;
    value = subst (IsValue M) (sym (get_or-set_same keys column key M.unit h)) value;
  }

  module _ (laws : IsOrderedMonoid M) where
    -- the nearer one of two columns is picked among the columns that either was picked among
    pub Picks-nearest : (leads : Leads V) (p q r : ℕ → Type 0) (former found result : Option ℕ) → ((k : ℕ) → p k → r k) → ((k : ℕ) → q k → r k) → ((k : ℕ) → r k → p k ⊎ q k) → ((k : ℕ) (key : V) → r k → lead_at M leads k ≡ Some key → IsValue M key) → IsNearest M leads.keys former found result → Picks M (lead_at M leads) p former → Picks M (lead_at M leads) q found → Picks M (lead_at M leads) r result
    Picks-nearest leads p q r former None result left right cases values is first second =
        subst (Picks M (lead_at M leads) r) (sym is) (wider former first)
      where
        wider : (o : Option ℕ) → Picks M (lead_at M leads) p o → Picks M (lead_at M leads) r o
        wider None a = λ k h. ⊎_elim (a k) (second k) (cases k h)
        wider (Some f) a = record {
          among = left f a.among;
          key = a.key;
          has = a.has;
          least = λ k other h e. ⊎_elim (λ in_p. a.least k other in_p e) (λ in_q. absurd (none-some other (sym (second k in_q) ∙ e))) (cases k h);
        }
    Picks-nearest leads p q r former (Some column) result left right cases values is first second =
        ⊎_elim
        (λ new. subst (Picks M (lead_at M leads) r) (sym new.0) (taken former new.1 first))
        (λ old. subst (Picks M (lead_at M leads) r) (sym (old.2 ∙ old.1)) (stays old.0 old.3 (subst (Picks M (lead_at M leads) p) old.1 first)))
        is
      where
        value : IsValue M second.key
        value = values column second.key (right column second.among) second.has

        taken : (o : Option ℕ) → ((k : ℕ) → o ≡ Some k → IsNoFarther M leads.keys column k) → Picks M (lead_at M leads) p o → IsLeast M (lead_at M leads) r column
        taken None low a = record {
          among = right column second.among;
          key = second.key;
          has = second.has;
          least = λ k other h e. ⊎_elim (λ in_p. absurd (none-some other (sym (a k in_p) ∙ e))) (λ in_q. second.least k other in_q e) (cases k h);
        }
        taken (Some f) low a = record {
          among = right column second.among;
          key = second.key;
          has = second.has;
          least = λ k other h e.
              ⊎_elim
              (λ in_p. laws.transitive second.key a.key other value (values f a.key (left f a.among) a.has) (values k other h e)
              (subst (λ y. IsLe M y a.key) (key_is leads column second.key second.has) (subst (IsLe M (get_or leads.keys column M.unit)) (key_is leads f a.key a.has) (low f refl)))
              (a.least k other in_p e))
              (λ in_q. second.least k other in_q e)
              (cases k h);
        }

        stays : (f : ℕ) → IsNoFarther M leads.keys f column → IsLeast M (lead_at M leads) p f → IsLeast M (lead_at M leads) r f
        stays f low a = record {
          among = left f a.among;
          key = a.key;
          has = a.has;
          least = λ k other h e.
              ⊎_elim
              (λ in_p. a.least k other in_p e)
              (λ in_q. laws.transitive a.key second.key other (values f a.key (left f a.among) a.has) value (values k other h e)
              (subst (λ y. IsLe M y second.key) (key_is leads f a.key a.has) (subst (IsLe M (get_or leads.keys f M.unit)) (key_is leads column second.key second.has) low))
              (second.least k other in_q e))
              (cases k h);
        }

    -- a column with a key is picked among itself
    pub Picks-itself : (lead : ℕ → Option V) (column : ℕ) (key : V) → lead column ≡ Some key → IsValue M key → IsLeast M lead (λ k. k ≡ column) column
    Picks-itself lead column key has value = record {
      among = refl;
      key = key;
      has = has;
      least = λ k other h e. subst (IsLe M key) (same_Some key other (sym has ∙ ap lead (sym h) ∙ e)) (reflexive M laws key value);
    }

    module _ (before after : Leads V) (p : ℕ → Type 0) (column : ℕ) (there : p column) (others : (k : ℕ) → (k ≡ column → ⊥) → lead_at M after k ≡ lead_at M before k) (taken : HasTaken M before after column) (valued : (k : ℕ) (key : V) → p k → lead_at M before k ≡ Some key → IsValue M key) where
      valued_after : (k : ℕ) (key : V) → p k → lead_at M after k ≡ Some key → IsValue M key
      valued_after k key h e =
          ⊎_elim
          (λ same. subst (IsValue M) (same_Some taken.key key (sym taken.has ∙ ap (lead_at M after) (sym same) ∙ e)) taken.is_value)
          (λ other. valued k key h (sym (others k other) ∙ e))
          (cases_eq k column)

      -- the columns but the one that took a key
      abbrev pub IsOther : ℕ → Type 0
      IsOther k = p k × (k ≡ column → ⊥)

      with_column : (former result : Option ℕ) → IsNearer M after.keys former column result → Picks M (lead_at M after) IsOther former → Picks M (lead_at M after) p result
      with_column former result is picks =
          Picks-nearest after IsOther (λ k. k ≡ column) p former (Some column) result
          (λ k h. h.0)
          (λ k e. subst p (sym e) there)
          (λ k h. ⊎_elim inr (λ other. inl (h, other)) (cases_eq k column))
          valued_after is picks
          (Picks-itself (lead_at M after) column taken.key taken.has taken.is_value)

      -- a column took a key and was compared with the nearest one
      pub Picks-taken : (former result : Option ℕ) → IsNearer M after.keys former column result → Picks M (lead_at M before) p former → Picks M (lead_at M after) p result
      Picks-taken None result is picks = with_column None result is (λ k h. others k h.1 ∙ picks k h.0)
      Picks-taken (Some f) result is picks =
          ⊎_elim
          (λ same.
          let same_result : result ≡ Some column = ⊎_elim (λ new. new.0) (λ old. old.2 ∙ ap Some same) is in
          subst (Picks M (lead_at M after) p) (sym same_result) (record {
            among = there;
            key = taken.key;
            has = taken.has;
            least = λ k other h e.
                ⊎_elim
                (λ here. subst (IsLe M taken.key) (same_Some taken.key other (sym taken.has ∙ ap (lead_at M after) (sym here) ∙ e)) (reflexive M laws taken.key taken.is_value))
                (λ apart.
                let was = sym (others k apart) ∙ e in
                laws.transitive taken.key picks.key other taken.is_value (valued f picks.key picks.among picks.has) (valued k other h was)
                (taken.low picks.key (ap (lead_at M before) (sym same) ∙ picks.has))
                (picks.least k other h was))
                (cases_eq k column);
          }))
          (λ apart.
          with_column (Some f) result is (record {
            among = (picks.among, apart);
            key = picks.key;
            has = others f apart ∙ picks.has;
            least = λ k other h e. picks.least k other h.0 (sym (others k h.1) ∙ e);
          }))
          (cases_eq f column)

    -- a column was offered a key
    pub Picks-approached : (before after : Leads V) (p : ℕ → Type 0) (column : ℕ) (former result : Option ℕ) → p column → ((k : ℕ) → (k ≡ column → ⊥) → lead_at M after k ≡ lead_at M before k) → ((k : ℕ) (key : V) → p k → lead_at M before k ≡ Some key → IsValue M key) → IsApproached M before after column former result → Picks M (lead_at M before) p former → Picks M (lead_at M after) p result
    Picks-approached before after p column former result there others valued approached picks =
        ⊎_elim
        (λ same. Picks-same (lead_at M before) (lead_at M after) p p result (λ k h. h) (λ k h. h) (λ k _. same.0 k) (subst (Picks M (lead_at M before) p) (sym same.1) picks))
        (λ taken. Picks-taken before after p column there others taken.0 valued former result taken.1 picks)
        approached

  -- the nearest columns of the words, where one of them was found anew and the others are as they
  -- were
  pub AreNearest-set : (before after : Leads V) (unseen later : List ℕ) (nearest : List (Option ℕ)) (number : ℕ) (found : Option ℕ) → number < length unseen → length later ≡ length unseen → ((k : ℕ) → (k / 64 ≡ number → ⊥) → HasColumn later k ↔ HasColumn unseen k) → ((k : ℕ) → HasColumn unseen k → (k / 64 ≡ number → ⊥) → lead_at M after k ≡ lead_at M before k) → Picks M (lead_at M after) (IsWithin number later) found → AreNearest M before unseen nearest → AreNearest M after later (set nearest number found)
  AreNearest-set before after unseen later nearest number found within count columns same picks are = record {
    count = length-set nearest number found ∙ are.count ∙ sym count;
    each = λ i h.
        ⊎_elim
        (λ here.
        subst (Picks M (lead_at M after) (IsWithin i later)) (sym (get_or-set_at nearest number i found None here (omega (arith, within, are.count))))
        (subst (λ n. Picks M (lead_at M after) (IsWithin n later) found) (sym here) picks))
        (λ other.
        subst (Picks M (lead_at M after) (IsWithin i later)) (sym (get_or-set_other nearest number i found None other))
        (Picks-same (lead_at M before) (lead_at M after) (IsWithin i unseen) (IsWithin i later) (get_or nearest i None)
        (λ k w. (w.0, (columns k (λ e. other (sym w.0 ∙ e))).1 w.1))
        (λ k w. (w.0, (columns k (λ e. other (sym w.0 ∙ e))).0 w.1))
        (λ k w. same k w.1 (λ e. other (sym w.0 ∙ e)))
        (are.each i (omega (arith, h, count)))))
        (cases_eq i number);
  }

  -- where no column has a key no word has a nearest column
  pub AreNearest-none : (leads : Leads V) (unseen : List ℕ) (count : ℕ) → count ≡ length unseen → ((k : ℕ) → lead_at M leads k ≡ None) → AreNearest M leads unseen (replicate count None)
  AreNearest-none leads unseen count is none = record {
    count = length-replicate count None ∙ is;
    each = λ i h. subst (Picks M (lead_at M leads) (IsWithin i unseen)) (sym (get_or-replicate count i None None (omega (arith, h, is)))) (λ k w. none k);
  }
