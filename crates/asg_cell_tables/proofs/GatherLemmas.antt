-- Items that are brought side by side.
use Rattle.asg_cell_tables.proofs.Common.{◌≡◌, ℕ, ◌+◌, ◌*◌, ◌/◌, ◌<◌, ◌≤◌, ◌≢◌, List, length, get_or, set, replicate, ℤ, sym, ap, ◌∙◌, ⊎_elim, arith, length-set, get_or-set_other, get_or-set_same, cases_eq, cases_lt, get_or-replicate, get_or_past, length-replicate}

-- one item more
pub items_more : (room : List ℤ) (place : ℕ) (item other : ℤ) (wanted : ℕ → ℤ) → place < length room → item ≡ wanted place → ((k : ℕ) → k < place → get_or room k other ≡ wanted k) → (k : ℕ) → k < place + 1 → get_or (set room place item) k other ≡ wanted k
items_more room place item other wanted within is so_far k h =
    ⊎_elim
    (λ (here : k ≡ place). ap (λ i. get_or (set room place item) i other) here ∙ get_or-set_same room place item other within ∙ is ∙ ap wanted (sym here))
    (λ (apart : k ≢ place). get_or-set_other room place k item other apart ∙ so_far k (omega (arith, h, apart)))
    (cases_eq k place)

-- one item more, twice
pub pairs_more : (items room : List ℤ) (from i : ℕ) (item other : ℤ) → 2 * i + 1 < length room → item ≡ get_or items (from + i) other → ((k : ℕ) → k < 2 * i → get_or room k other ≡ get_or items (from + k / 2) other) → (k : ℕ) → k < 2 * (i + 1) → get_or (set (set room (2 * i) item) (2 * i + 1) item) k other ≡ get_or items (from + k / 2) other
pairs_more items room from i item other within is so_far k h =
    let wanted = λ (k : ℕ). get_or items (from + k / 2) other in
    let first : from + i ≡ from + 2 * i / 2 = omega arith in
    let second : from + i ≡ from + (2 * i + 1) / 2 = omega arith in
    items_more (set room (2 * i) item) (2 * i + 1) item other wanted (omega (arith, within, length-set room (2 * i) item)) (is ∙ ap (λ n. get_or items n other) second)
    (items_more room (2 * i) item other wanted (omega (arith, within)) (is ∙ ap (λ n. get_or items n other) first) so_far)
    k (omega (arith, h))

-- a room in which nothing stands yet
pub clear_room : (other : ℤ) (k : ℕ) → get_or (replicate 64 other) k other ≡ other
clear_room other k =
    ⊎_elim
    (λ (h : k < 64). get_or-replicate 64 k other other h)
    (λ (past : 64 ≤ k). get_or_past (replicate 64 other) k other (omega (arith, past, length-replicate {A = ℤ} 64 other)))
    (cases_lt k 64)
