-- Pieces of counted rows: the parts of their costs, the values that these enter as, and the words
-- whose bits say which are present.
use Rattle.asg_cell_tables.proofs.Common.{◌≡◌, ℕ, ◌+◌, ◌-◌, ◌^◌, ◌<◌, ◌≤◌, Bool, true, false, cond, not, ◌&&◌, ◌||◌, eqb, ◌≢◌, List, length, get_or, take, drop, ℤ, pos, is_some, IfSome, slice_get, bit_or, Some, None, Option, option_map, int_eq, sym, refl, ap, ◌∙◌, subst, ⊎_elim, arith, length-take-le, get_or-take, bit_at, bit_at-zero, bit_at_ones, cases_Bool, false≢true, none-some, option_map_or, is_bit_set, IsLiveRow, ArePieceOf, AreBitsOf, labelled_cell, MayEnterEach, EntersAs, leaves_rows, is_labelled_within, is_there, live_cost, entered_value, ArePieceParts, gathered_item, live_at, Problem, absent, table_cost, Whole, Cost, Place}
use Rattle.asg_model.specs.Bands.{in_band}
use Rattle.asg_bit_rows.specs.WordBits.{HasBit}
use Rattle.asg_bit_rows.specs.laws.Words.{bit_of, of_bit, is_with}
use Rattle.asg_cell_tables.proofs.RowLemmas.{piece_labels}
use Rattle.asg_model.specs.declared.parts.Place.TheVariants.{All as PlaceAll, Exactly}

-- ---- what costs enter as

-- the cost of a live cell may enter
pub may_enter : (X : Problem) (r : ℕ) (label : Option ℕ) (cost : Option Cost) (may : Cost → Type 0) → MayEnterEach X may → cost ≡ live_cost X r label → IfSome cost may
may_enter X r label cost may each is = subst (λ o. IfSome o may) (sym is) (by_label label)
  where
    by_label : (o : Option ℕ) → IfSome (live_cost X r o) may
    by_label None = tt
    by_label (Some d) = each r d

enters_as : {V : Type 0} (X : Problem) (enters : Cost → V → Type 0) (entered : Cost → V) (r : ℕ) (label : Option ℕ) (x : Cost) (v : V) → EntersAs X enters entered → live_cost X r label ≡ Some x → enters x v → v ≡ entered x
enters_as X enters entered r None x v each is enter = absurd (none-some x is)
enters_as X enters entered r (Some d) x v each is enter = each r d x v is enter

-- what it enters as, or the free value
pub value_is : {V : Type 0} (X : Problem) (free : V) (enters : Cost → V → Type 0) (entered : Cost → V) (r : ℕ) (label : Option ℕ) (cost : Option Cost) (v : V) → EntersAs X enters entered → cost ≡ live_cost X r label → IfSome cost (λ x. enters x v) → (cost ≡ None → v ≡ free) → Some v ≡ Some (entered_value X free entered r label)
value_is X free enters entered r label None v each is some none = ap Some (none refl ∙ ap (λ (o : Option Cost). option_map_or entered o free) is)
value_is X free enters entered r label (Some x) v each is some none =
    ap Some (enters_as X enters entered r label x v each (sym is) some ∙ ap (λ (o : Option Cost). option_map_or entered o free) is)

-- the values and the bits of a piece are those of its cells
pub counted_cells : {V : Type 0} (X : Problem) (free : V) (entered : Cost → V) (r : ℕ) (labels : List (Option ℕ)) (values : List V) (word count : ℕ) → ((k : ℕ) → k < count → slice_get values k ≡ Some (entered_value X free entered r (get_or labels k None))) → AreBitsOf count (λ k. is_labelled_within X Whole (Some r) (get_or labels k None)) word → ArePieceOf count values word (λ k. labelled_cell X free entered (Some r) (get_or labels k None))
counted_cells {V} X free entered r labels values word count same bits = record {
  each = λ k h.
      ap (λ o. cond (is_bit_set word k) o None) (same k h)
      ∙ ap (λ b. cond b (Some (entered_value X free entered r (get_or labels k None))) None) (bits.each k h)
      ∙ by_label X.place (get_or labels k None);
  inside = bits.inside;
}
  where
    by_cost : (o : Option Cost) → cond (option_map_or (λ (cost : Cost). in_band Whole cost.a) o false) (Some (option_map_or entered o free)) None ≡ option_map entered o
    by_cost None = refl
    by_cost (Some x) = refl

    by_label : (place : Place) (o : Option ℕ) → cond (is_labelled_within (record X { place = place }) Whole (Some r) o) (Some (entered_value X free entered r o)) None ≡ labelled_cell (record X { place = place }) free entered (Some r) o
    by_label place (Some d) = by_cost (live_at X r d)
    by_label PlaceAll None = refl
    by_label (Exactly k) None = refl

-- ---- parts of costs side by side

-- the cost of two parts
abbrev cost_of : ℤ → ℤ → Option Cost
cost_of a b = cond (int_eq a absent) None (Some (record { a = a; b = b }))

-- those of the columns from a place on
pub plain_parts : (X : Problem) (r first count : ℕ) (labels : List (Option ℕ)) (firsts seconds rest : List ℤ) → IsLiveRow X r firsts seconds → ((k : ℕ) → k < length labels → get_or labels k None ≡ Some (first + k)) → ((k : ℕ) → get_or rest k (pos 0) ≡ get_or seconds (first + k) (pos 0)) → count ≡ length labels → length (take count (drop first firsts)) ≡ count → ArePieceParts X r labels (take count (drop first firsts)) rest
plain_parts X r first count labels firsts seconds rest live plain same is long = record {
  count = long ∙ is;
  each = λ k h.
      ap (λ a. cost_of a (get_or rest k (pos 0))) (piece_labels firsts first count k absent (omega (arith, h, is)))
      ∙ ap (cost_of (get_or firsts (first + k) absent)) (same k)
      ∙ sym (live (first + k))
      ∙ ap (live_cost X r) (sym (plain k h));
}

-- those of the columns with any labels, brought side by side
pub gathered_parts : (X : Problem) (r : ℕ) (labels : List (Option ℕ)) (firsts seconds f s : List ℤ) → IsLiveRow X r firsts seconds → ((k : ℕ) → k < length labels → get_or f k absent ≡ gathered_item firsts absent (get_or labels k None)) → ((k : ℕ) → k < length labels → get_or s k (pos 0) ≡ gathered_item seconds (pos 0) (get_or labels k None)) → length labels ≤ length f → ArePieceParts X r labels (take (length labels) f) s
gathered_parts X r labels firsts seconds f s live first second within = record {
  count = length-take-le (length labels) f within;
  each = λ k h.
      ap (λ a. cost_of a (get_or s k (pos 0))) (get_or-take (length labels) f k absent h ∙ first k h)
      ∙ ap (cost_of (gathered_item firsts absent (get_or labels k None))) (second k h)
      ∙ by_label (get_or labels k None);
}
  where
    by_label : (o : Option ℕ) → cost_of (gathered_item firsts absent o) (gathered_item seconds (pos 0) o) ≡ live_cost X r o
    by_label None = refl
    by_label (Some d) = sym (live d)

-- ---- which of them are present

there_is : (seconds : List ℤ) (k : ℕ) (a : ℤ) → is_there a ≡ is_some (table_cost seconds k a)
there_is seconds k a = by_test (int_eq a absent) (record { a = a; b = get_or seconds k (pos 0) })
  where
    by_test : (b : Bool) (cost : Cost) → not b ≡ is_some (cond b None (Some cost))
    by_test true cost = refl
    by_test false cost = refl

-- the bits of first parts are those of costs
pub present_bits : (X : Problem) (r count : ℕ) (labels : List (Option ℕ)) (firsts seconds : List ℤ) (word : ℕ) → ArePieceParts X r labels firsts seconds → length labels ≡ count → AreBitsOf (length firsts) (λ k. is_there (get_or firsts k absent)) word → AreBitsOf count (λ k. is_some (live_cost X r (get_or labels k None))) word
present_bits X r count labels firsts seconds word parts size bits = record {
  each = λ k h.
      bits.each k (omega (arith, h, size, parts.count))
      ∙ there_is seconds k (get_or firsts k absent)
      ∙ ap is_some (parts.each k (omega (arith, h, size)));
  inside = λ k has. let below = bits.inside k has in omega (arith, below, size, parts.count);
}

-- where all bits are set, none is absent
pub all_there : (firsts : List ℤ) (word : ℕ) → AreBitsOf (length firsts) (λ k. is_there (get_or firsts k absent)) word → word ≡ 2 ^ 64 - 1 → length firsts ≤ 64 → (k : ℕ) → k < length firsts → get_or firsts k absent ≢ absent
all_there firsts word bits full few k h e =
    let set : is_bit_set word k ≡ true = ap (λ w. is_bit_set w k) full ∙ ap (λ n. eqb n 1) (bit_at_ones 64 k (omega (arith, h, few))) in
    false≢true (sym (ap is_there e) ∙ (sym (bits.each k h) ∙ set))

-- and there are 64
pub full_count : (count word : ℕ) (passes : ℕ → Bool) → AreBitsOf count passes word → word ≡ 2 ^ 64 - 1 → count ≤ 64 → count ≡ 64
full_count count word passes bits full few =
    let last = bits.inside 63 (ap (λ w. is_bit_set w 63) full ∙ ap (λ n. eqb n 1) (bit_at_ones 64 63 (omega arith))) in
    omega (arith, last, few)

-- ---- words of bits

-- no bit is set
pub none_pass : (count : ℕ) (passes : ℕ → Bool) → ((k : ℕ) → k < count → false ≡ passes k) → AreBitsOf count passes 0
none_pass count passes none = record {
  each = λ k h. ap (λ n. eqb n 1) (bit_at-zero k) ∙ none k h;
  inside = λ k has. absurd (false≢true (sym (ap (λ n. eqb n 1) (bit_at-zero k)) ∙ has));
}

-- the first ones are
pub first_pass : (count word : ℕ) → count ≤ 64 → ((k : ℕ) → (HasBit word k → (k < count) × (k < 64)) × ((k < count) × (k < 64) → HasBit word k)) → AreBitsOf count (λ _. true) word
first_pass count word few bits = record {
  each = λ k h. of_bit (bit_at word k) ((bits k).1 (h, omega (arith, h, few)));
  inside = λ k has. ((bits k).0 (bit_of (bit_at word k) has)).0;
}

-- those of both words
pub bits_or : (count a b : ℕ) (p q : ℕ → Bool) → AreBitsOf count p a → AreBitsOf count q b → AreBitsOf count (λ k. p k || q k) (bit_or a b)
bits_or count a b p q pa qb = record {
  each = λ k h.
      is_with a b k
      ∙ ap (λ y. cond y true (is_bit_set a k)) (qb.each k h)
      ∙ ap (cond (q k) true) (pa.each k h)
      ∙ or_is (p k) (q k);
  inside = λ k has.
      ⊎_elim
      (λ (e : is_bit_set b k ≡ true). qb.inside k e)
      (λ (e : is_bit_set b k ≡ false). pa.inside k (sym (is_with a b k ∙ ap (λ y. cond y true (is_bit_set a k)) e) ∙ has))
      (cases_Bool (is_bit_set b k));
}
  where
    or_is : (x y : Bool) → cond y true x ≡ (x || y)
    or_is true true = refl
    or_is true false = refl
    or_is false true = refl
    or_is false false = refl

-- the bits of costs and of columns without a label are those of cells
pub label_bit : (X : Problem) (r : ℕ) (o : Option ℕ) → (is_some (live_cost X r o) || (leaves_rows X.place && not (is_some o))) ≡ is_labelled_within X Whole (Some r) o
label_bit X r None = and_true (leaves_rows X.place)
  where
    and_true : (b : Bool) → (b && true) ≡ b
    and_true true = refl
    and_true false = refl
label_bit X r (Some d) = by_cost (live_at X r d) (leaves_rows X.place)
  where
    by_cost : (o : Option Cost) (b : Bool) → (is_some o || (b && false)) ≡ option_map_or (λ (cost : Cost). in_band Whole cost.a) o false
    by_cost None true = refl
    by_cost None false = refl
    by_cost (Some x) b = refl

-- those of costs alone, where each column has a label
pub cost_bit : (X : Problem) (r d : ℕ) → is_some (live_cost X r (Some d)) ≡ is_labelled_within X Whole (Some r) (Some d)
cost_bit X r d = by_cost (live_at X r d)
  where
    by_cost : (o : Option Cost) → is_some o ≡ option_map_or (λ (cost : Cost). in_band Whole cost.a) o false
    by_cost None = refl
    by_cost (Some x) = refl
