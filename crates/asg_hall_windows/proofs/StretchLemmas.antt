-- Windows in order, and the stretches of their costs.
use Rattle.asg_hall_windows.proofs.Common.{◌≡◌, ℕ, ◌+◌, ◌-◌, ◌<◌, ◌≤◌, List, length, get_or, ℤ, ◌≤ℤ◌, ⊎_elim, subst, arith, ints, cases_lt, AreAscending, BeginsAfter, EndsBefore, LiesInStretch, LiesInWindow, Stretch, Window}

-- neither end of a window is above that of another one
abbrev pub Below : Window → Window → Type 0
Below window other = (window.lo ≤ℤ other.lo) × (window.hi ≤ℤ other.hi)

below_itself : (window : Window) → Below window window
below_itself window = (omega (arith, ints), omega (arith, ints))

below_both : (a b c : Window) → Below a b → Below b c → Below a c
below_both a b c first then = (omega (arith, ints, first.0, then.0), omega (arith, ints, first.1, then.1))

-- one window more is in order
pub ascending_more : (windows : List Window) (n : ℕ) → n < length windows → 0 < n
    → ((d : Window) → Below (get_or windows (n - 1) d) (get_or windows n d))
    → ((i j : ℕ) (d : Window) → i < j → j < n → Below (get_or windows i d) (get_or windows j d))
    → (i j : ℕ) (d : Window) → i < j → j < n + 1 → Below (get_or windows i d) (get_or windows j d)
ascending_more windows n within some last before i j d less below =
    ⊎_elim (λ (early : j < n). before i j d less early)
    (λ (late : n ≤ j).
    let same : n ≡ j = omega (arith, late, below) in
    subst (λ k. Below (get_or windows i d) (get_or windows k d)) same
    (⊎_elim (λ (far : i < n - 1). below_both (get_or windows i d) (get_or windows (n - 1) d) (get_or windows n d) (before i (n - 1) d far (omega (arith, some))) (last d))
    (λ (near : n - 1 ≤ i).
    let this : n - 1 ≡ i = omega (arith, near, less, same, some) in
    subst (λ k. Below (get_or windows k d) (get_or windows n d)) this (last d))
    (cases_lt i (n - 1))))
    (cases_lt j n)

-- a window at or behind another one
pub in_order : (windows : List Window) → AreAscending windows → (i j : ℕ) (d : Window) → i ≤ j → j < length windows → Below (get_or windows i d) (get_or windows j d)
in_order windows ascending i j d le within =
    ⊎_elim (λ (less : i < j). ascending i j d less within)
    (λ (more : j ≤ i).
    let same : i ≡ j = omega (arith, le, more) in
    subst (λ k. Below (get_or windows i d) (get_or windows k d)) same (below_itself (get_or windows i d)))
    (cases_lt i j)

-- the costs of a stretch lie in no windows but its own
pub no_others : (windows : List Window) (stretch : Stretch) → AreAscending windows → stretch.from < stretch.to → stretch.to ≤ length windows
    → BeginsAfter windows stretch.to stretch → EndsBefore windows stretch.from stretch
    → (w : ℕ) (d : Window) (a : ℤ) → w < length windows → LiesInStretch a stretch → LiesInWindow a (get_or windows w d) → (stretch.from ≤ w) × (w < stretch.to)
no_others windows stretch ascending some fits begins ends w d a within inside lies = (
  ⊎_elim
      (λ (before : w < stretch.from).
      let first : 0 < stretch.from = omega (arith, before) in
      let up = (in_order windows ascending w (stretch.from - 1) d (omega (arith, before)) (omega (arith, some, fits, first))).1 in
      absurd (omega (arith, ints, lies.1, up, ends d first, inside.0)))
      (λ (from : stretch.from ≤ w). from)
      (cases_lt w stretch.from),
  ⊎_elim (λ (to : w < stretch.to). to)
      (λ (past : stretch.to ≤ w).
      let up = (in_order windows ascending stretch.to w d past within).0 in
      absurd (omega (arith, ints, lies.0, up, begins d (omega (arith, past, within)), inside.1)))
      (cases_lt w stretch.to),
)
