-- Values behind a word, and answers.
use Rattle.asg_doc_reader.proofs.Common.{◌≡◌, ℕ, ◌≢◌, List, ◌∷◌, ◌++◌, map, length, ℤ, IsErrAnd, FitsSigned, Ok, Err, codes, decimal, Result, sym, refl, ap, ◌∙◌, subst, arith, All-append, append_cancel_left, flat_map_single, w128, bound_spelling, value_spelling, value_part, count_part, cell_part, answer_part, IsWrittenValue, cell_line, value_text, form_of, Lacks, line_ends, Part, and_then, counted, IsReadable, Spelling, SpellsOrFails, IsListOf, behind, listed, signed_spelling, signed_pair_spelling, Fault, Refused, NoMemory, IsLegible-signed_pair, after_cut, Lacks-none, IsReadable-line, IsReadable-chain, IsReadable-counted, IsReadable-shape, Chain, Shape, IsLegible, IsLegible-behind, IsLegible-signed, Objective, w64}
use Rattle.asg_doc.specs.declared.documents.ValueForm.{ValueForm}
use Rattle.asg_model.specs.declared.objectives.Value.TheVariants.{One, Two, Many}
use Rattle.asg_model.specs.declared.objectives.Value.{Value}
use Rattle.asg_doc_reader.proofs.Leaves.{costs_legible, count_law, cell_law}
use Rattle.asg_doc.specs.declared.documents.ValueForm.TheVariants as forms

-- ---- a value that is made of another is spelled as that

pub record Made {A C : Type 0} (spelling : Spelling A) (whole : Spelling C) : Type 0 where
  pub make : A → C
  pub has : (a : A) → spelling.Has a → whole.Has (make a)
  pub alike : (a : A) → whole.bytes (make a) ≡ spelling.bytes a
  pub back : (c : C) → whole.Has c → (a : A) × spelling.Has a × (c ≡ make a)

module _ {A C : Type 0} {spelling : Spelling A} {whole : Spelling C} (made : Made spelling whole) where
  spelled : (c : C) → whole.Has c → (a : A) × spelling.Has a × (c ≡ made.make a) × (whole.bytes c ≡ spelling.bytes a)
  spelled c has = let found = made.back c has in (found.0, found.1, found.2, ap whole.bytes found.2 ∙ made.alike found.0)

  pub IsLegible-made : IsLegible spelling → IsLegible whole
  IsLegible-made law = record {
    some = made.make law.some;
    has = made.has law.some law.has;
    same = λ c d hc hd e.
        let x = spelled c hc in
        let y = spelled d hd in
        x.2 ∙ ap made.make (law.same x.0 y.0 x.1 y.1 (sym x.3 ∙ e ∙ y.3)) ∙ sym y.2;
    plain = λ c hc. let x = spelled c hc in subst (Lacks 10) (sym x.3) (law.plain x.0 x.1);
  }

  -- bytes that spell none of what it is made of spell no value
  pub none_made : (bytes : List ℕ) → ((a : A) → spelling.Has a → bytes ≡ spelling.bytes a → ⊥) → (c : C) → whole.Has c → bytes ≡ whole.bytes c → ⊥
  none_made bytes none c has is = let x = spelled c has in none x.0 x.1 (is ∙ x.3)

  fails : (bytes : List ℕ) (fault : Fault) → SpellsOrFails spelling bytes (Err fault) → SpellsOrFails whole bytes (Err fault)
  fails bytes Refused none = none_made bytes none
  fails bytes NoMemory none = tt

  pub fails_made : (bytes : List ℕ) (fault : Fault) (result : Result C Fault) → IsErrAnd result (λ y. y ≡ fault) → SpellsOrFails spelling bytes (Err fault) → SpellsOrFails whole bytes result
  fails_made bytes fault (Ok c) gives none = absurd gives
  fails_made bytes fault (Err y) gives none = fails bytes y (subst (λ f. SpellsOrFails spelling bytes (Err f)) (sym gives) none)

-- ---- values

abbrev pub after_space : {A : Type 0} → Spelling A → Spelling A
after_space spelling = behind (codes " ") spelling

pub one_made : Made (after_space signed_spelling) (value_spelling forms.One)
one_made = record { make = One; has = λ n h. h; alike = λ n. refl; back = back } where
  back : (v : Value) → IsWrittenValue forms.One v → (n : ℤ) × FitsSigned w128 n × (v ≡ One n)
  back (One n) h = (n, h, refl)
  back _ h = absurd h

pub two_made : Made (after_space signed_pair_spelling) (value_spelling forms.Two)
two_made = record { make = λ p. Two p.0 p.1; has = λ p h. h; alike = λ p. refl; back = back } where
  back : (v : Value) → IsWrittenValue forms.Two v → (p : ℤ × ℤ) × (FitsSigned w128 p.0 × FitsSigned w128 p.1) × (v ≡ Two p.0 p.1)
  back (Two x y) h = ((x, y), h, refl)
  back _ h = absurd h

pub many_made : Made (listed bound_spelling) (value_spelling forms.Many)
many_made = record { make = Many; has = λ costs h. h; alike = λ costs. refl; back = back } where
  back : (v : Value) → IsWrittenValue forms.Many v → (costs : List ℤ) × IsListOf (FitsSigned w64) costs × (v ≡ Many costs)
  back (Many costs) h = (costs, h, refl)
  back _ h = absurd h

pub value_legible : (form : ValueForm) → IsLegible (value_spelling form)
value_legible forms.One = IsLegible-made one_made (IsLegible-behind (codes " ") refl IsLegible-signed)
value_legible forms.Two = IsLegible-made two_made (IsLegible-behind (codes " ") refl IsLegible-signed_pair)
value_legible forms.Many = IsLegible-made many_made costs_legible

-- what isn't spelled behind a space isn't spelled with it
pub none_spaced : {A : Type 0} (spelling : Spelling A) (text rest : List ℕ) → text ≡ codes " " ++ rest → ((a : A) → spelling.Has a → rest ≡ spelling.bytes a → ⊥)
    → (a : A) → spelling.Has a → text ≡ (after_space spelling).bytes a → ⊥
none_spaced spelling text rest space none a has is = none a has (after_cut 32 text rest (spelling.bytes a) space is)

-- ---- a word without LF, and what is behind it

IsLegible-front : {A : Type 0} {spelling : Spelling A} (word : List ℕ) → Lacks 10 word → IsLegible spelling → IsLegible (behind word spelling)
IsLegible-front {spelling = spelling} word lacks law = record {
  some = law.some;
  has = law.has;
  same = λ a b ha hb e. law.same a b ha hb (append_cancel_left word (spelling.bytes a) (spelling.bytes b) e);
  plain = λ a ha. All-append (λ b. b ≢ 10) word (spelling.bytes a) lacks (law.plain a ha);
}

pub value_law : (word : List ℕ) → line_ends word ≡ 0 → (o : Objective) → IsReadable (value_part word o)
value_law word one o = IsReadable-line (IsLegible-front word (Lacks-none word one) (value_legible (form_of o)))

-- ---- answers

pub counted_cells : Chain count_part (λ count. counted count cell_part)
counted_cells = record { first_law = count_law; second_law = λ count _. IsReadable-counted cell_law count }

abbrev cells_part : Part ((count : ℕ) × List (ℕ × ℕ))
cells_part = and_then count_part (λ count. counted count cell_part)

pub value_cells : (word : List ℕ) → line_ends word ≡ 0 → (o : Objective) → Chain (value_part word o) (λ _. cells_part)
value_cells word one o = record { first_law = value_law word one o; second_law = λ _ _. IsReadable-chain counted_cells }

unfoldable pub answer_shape : (word : List ℕ) (o : Objective) → Shape (and_then (value_part word o) (λ _. cells_part)) (answer_part word o)
answer_shape word o = record {
  make = λ t. record { value = t.0; cells = t.1.1 };
  has = λ t h. record { value = h.0; cells = record { some = omega (arith, h.1.0.0, h.1.1.0); few = omega (arith, h.1.0.1, h.1.1.0); ids = h.1.1.1 } };
  lines = λ t h. ap (λ n. (word ++ value_text t.0) ∷ (codes "cells " ++ decimal n) ∷ map cell_line t.1.1) h.1.1.0
      ∙ ap (λ ls. (word ++ value_text t.0) ∷ (codes "cells " ++ decimal t.1.0) ∷ ls) (sym (flat_map_single cell_line t.1.1));
  back = λ a h. ((a.value, (length a.cells, a.cells)), (h.value, ((h.cells.some, h.cells.few), (refl, h.cells.ids))), refl);
}

pub answer_law : (word : List ℕ) → line_ends word ≡ 0 → (o : Objective) → IsReadable (answer_part word o)
answer_law word one o = IsReadable-shape (answer_shape word o) (IsReadable-chain (value_cells word one o))
