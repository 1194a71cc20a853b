-- Arcs whose cells come one behind the other, and the list of these cells.
use Rattle.asg_networks.proofs.Common.{◌≡◌, ℕ, ◌+◌, ◌*◌, ◌/◌, ◌%◌, ◌<◌, ◌≤◌, true, false, cond, List, [], ◌∷◌, ◌++◌, length, get_or, set, take, ℤ, pos, Some, None, Option, sym, refl, ap, ◌∙◌, subst, ⊎_elim, div-add-mod', arith, cases_Bool, cases_eq, cases_lt, div_below, get_or_past, mod_below, same_Some, absent, table_cells, IsPartInRange, IsLayout, cell_between, with_cost, are_same_ends, are_unlike, first_of, known_cost, firsts_between, Layout, Link}
use Rattle.asg_networks.proofs.TwiceLemmas.{AreOnce, none_told, one_more_once, ends_flip}
use Rattle.asg_networks.proofs.LayoutLemmas.{cell_is, length-firsts_between, place_within, put_cell, stands_at, told_at}
use Rattle.asg_model.specs.declared.parts.Cost.{Cost}

abbrev pub Cells : Type 0
Cells = List ((ℕ × ℕ) × Cost)

-- from a place of the table on no cost is known
abbrev pub IsNoneFrom : (ℕ → ℕ → Option ℤ) → List ℕ → List ℕ → ℕ → Type 0
IsNoneFrom known sources targets next =
    (r c : ℕ) → r < length sources → c < length targets → next ≤ r * length targets + c → known (get_or sources r 0) (get_or targets c 0) ≡ None

-- so nothing stands in the table from there on
absents : (known : ℕ → ℕ → Option ℤ) (sources targets : List ℕ) (next : ℕ) → IsNoneFrom known sources targets next → (k : ℕ) → next ≤ k → get_or (firsts_between known sources targets) k absent ≡ absent
absents known sources targets next none k upto =
    ⊎_elim
    (λ (within : k < length sources * length targets).
    ⊎_elim
    (λ (empty : length targets ≡ 0). absurd (omega (arith, within, ap (λ m. length sources * m) empty)))
    (λ some.
    let wide : 0 < length targets = omega arith in
    let row : k / length targets < length sources = div_below k (length targets) (length sources) wide within in
    let column : k % length targets < length targets = mod_below k (length targets) wide in
    let place : k / length targets * length targets + k % length targets ≡ k = div-add-mod' k (length targets) in
    subst (λ k. get_or (firsts_between known sources targets) k absent ≡ absent) place
    (cell_is known sources targets (k / length targets) (k % length targets) absent row column
    ∙ ap first_of (none (k / length targets) (k % length targets) row column (omega (arith, place, upto)))))
    (cases_eq (length targets) 0))
    (λ (past : length sources * length targets ≤ k). get_or_past (firsts_between known sources targets) k absent (omega (arith, past, length-firsts_between known sources targets)))
    (cases_lt k (length sources * length targets))

-- the cells of the first i arcs, the last of which stands before a place of the table
pub record AreListed (sources targets : List ℕ) (links : List Link) (i next : ℕ) (cells : Cells) : Type 0 where
  pub once : AreOnce (known_cost (take i links)) links i
  pub later : IsNoneFrom (known_cost (take i links)) sources targets next
  pub cells_are : cells ≡ table_cells (length targets) (firsts_between (known_cost (take i links)) sources targets) []

-- a table without a cost has no cell, and one that comes last is the last
abbrev pub NoCells : Type 0
NoCells = (columns : ℕ) (firsts : List ℤ) → ((k : ℕ) → get_or firsts k absent ≡ absent) → table_cells columns firsts [] ≡ []

abbrev pub LastCell : Type 0
LastCell =
    (columns : ℕ) (firsts : List ℤ) (r c : ℕ) (a : ℤ) → c < columns → r * columns + c < length firsts → IsPartInRange a → ((k : ℕ) → r * columns + c ≤ k → get_or firsts k absent ≡ absent)
    → table_cells columns (set firsts (r * columns + c) a) [] ≡ table_cells columns firsts [] ++ ((r, c), record { a = a; b = pos 0 }) ∷ []

pub none_listed : NoCells → (sources targets : List ℕ) (links : List Link) → AreListed sources targets links 0 0 []
none_listed law sources targets links =
    let none : IsNoneFrom (known_cost []) sources targets 0 = λ r c row column low. refl in
    record {
      once = record { once = refl; told = none_told (known_cost []) (λ s t. refl) };
      later = none;
      cells_are = sym (law (length targets) (firsts_between (known_cost []) sources targets) (λ k. absents (known_cost []) sources targets 0 none k (omega arith)));
    }

-- the next arc, whose cell comes behind
module _ (layout : Layout) (is : IsLayout layout) (links : List Link) (i : ℕ) (link : Link) (within : i < length links) (here : get_or links i link ≡ link) (next : ℕ) (cells : Cells) (old : AreListed layout.sources.now layout.targets.now links i next cells) (r c : ℕ) (told : cell_between layout (link.source, link.target) ≡ Some (r * length layout.targets.now + c)) (column : c < length layout.targets.now) (upto : next ≤ r * length layout.targets.now + c) (near : IsPartInRange link.cost) where
  abbrev sources : List ℕ
  sources = layout.sources.now

  abbrev targets : List ℕ
  targets = layout.targets.now

  abbrev known : ℕ → ℕ → Option ℤ
  known = known_cost (take i links)

  abbrev cell : ℕ
  cell = r * length targets + c

  abbrev ends : ℕ × ℕ
  ends = (link.source, link.target)

  abbrev more : ℕ → ℕ → Option ℤ
  more = with_cost known ends link.cost

  none_here : known link.source link.target ≡ None
  none_here =
      let at = stands_at layout is ends cell told in
      (λ j. known (sym at.source_is j) (sym at.target_is j)) ∙ old.later at.row at.column at.row_within at.column_within (omega (arith, at.cell_is_at, upto))

  more_once : AreOnce more links (i + 1)
  more_once =
      one_more_once known links i link within here old.once more (ap (are_unlike (Some link.cost)) none_here)
      (λ s t. ap {B = Option ℤ} (λ v. cond v (Some link.cost) (known s t)) (ends_flip (s, t) ends))

  same_known : more ≡ known_cost (take (i + 1) links)
  same_known = λ j s t. more_once.told.costs_are s t j

  more_later : IsNoneFrom more sources targets (cell + 1)
  more_later = λ r' c' row column past.
      ⊎_elim
      (λ (same : are_same_ends (get_or sources r' 0, get_or targets c' 0) ends ≡ true).
      let is_cell : cell ≡ r' * length targets + c' = same_Some _ _ (sym told ∙ told_at layout is ends r' c' row column same) in
      absurd (omega (arith, is_cell, past)))
      (λ (apart : are_same_ends (get_or sources r' 0, get_or targets c' 0) ends ≡ false).
      ap {B = Option ℤ} (λ v. cond v (Some link.cost) (known (get_or sources r' 0) (get_or targets c' 0))) apart
      ∙ old.later r' c' row column (omega (arith, past, upto)))
      (cases_Bool (are_same_ends (get_or sources r' 0, get_or targets c' 0) ends))

  pub one_listed : LastCell → AreListed sources targets links (i + 1) (cell + 1) (cells ++ ((r, c), record { a = link.cost; b = pos 0 }) ∷ [])
  one_listed law =
      let firsts = firsts_between known sources targets in
      let below : cell < length firsts = omega (arith, place_within layout is ends cell told, length-firsts_between known sources targets) in
      record {
        once = subst (λ known. AreOnce known links (i + 1)) same_known more_once;
        later = subst (λ known. IsNoneFrom known sources targets (cell + 1)) same_known more_later;
        cells_are =
            ap (λ cells. cells ++ ((r, c), record { a = link.cost; b = pos 0 }) ∷ []) old.cells_are
            ∙ sym (law (length targets) firsts r c link.cost column below near (λ k low. absents known sources targets next old.later k (omega (arith, upto, low))))
            ∙ ap (λ firsts. table_cells (length targets) firsts []) (put_cell layout is ends known link.cost cell told)
            ∙ ap (λ known. table_cells (length targets) (firsts_between known sources targets) []) same_known;
      }
