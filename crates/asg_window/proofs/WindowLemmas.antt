-- Windows of costs that hold grades.
use Rattle.asg_window.proofs.Common.{◌≡◌, ℕ, ◌+◌, ◌≤◌, Bool, true, false, ◌||◌, List, [], ◌∷◌, ◌++◌, length, ℤ, pos, ◌+ℤ◌, ◌-ℤ◌, IsTrue, int_le, sym, refl, ◌∙◌, subst, arith, false≢true, get_or_push, ints, length_push, list_any, list_any-append, list_any_at, cost_of, Problem, both_tests, holds_from, is_held, Window, Grid, IsWindowBy}

or_left : (a b : Bool) → IsTrue a → IsTrue (a || b)
or_left true b h = refl
or_left false b h = absurd (false≢true h)

low_holds : (low v : ℕ) (lo : ℤ) → lo ≡ cost_of low → low ≤ v → IsTrue (int_le lo (cost_of v))
low_holds low v lo e h = grind (arith, ints)

high_holds : (high v spread : ℕ) (hi : ℤ) → hi ≡ cost_of high -ℤ pos 1 → v + spread ≤ high → IsTrue (int_le ((cost_of v +ℤ pos spread) -ℤ pos 1) hi)
high_holds high v spread hi e h = grind (arith, ints)

-- a window of a band that holds so many grades from one on holds the costs
pub window_holds : (X : Problem) (Q : Grid ℕ) (low high v spread : ℕ) (w : Window) → IsWindowBy X Q low high w → low ≤ v → v + spread ≤ high → IsTrue (holds_from (pos spread) (cost_of v) w)
window_holds X Q low high v spread w is from upto =
    both_tests (int_le w.lo (cost_of v)) (int_le ((cost_of v +ℤ pos spread) -ℤ pos 1) w.hi) (low_holds low v w.lo is.lo from) (high_holds high v spread w.hi is.hi upto)

-- the last window of a list holds them
pub held_last : (windows : List Window) (w : Window) (d v : ℤ) → IsTrue (holds_from d v w) → IsTrue (is_held (windows ++ w ∷ []) d v)
held_last windows w d v h =
    list_any_at (holds_from d v) (windows ++ w ∷ []) (length windows) w (omega (arith, length_push windows w))
    (subst (λ x. IsTrue (holds_from d v x)) (sym (get_or_push windows w w (length windows) refl)) h)

-- what is held stays so with one window more
pub held_more : (windows : List Window) (w : Window) (d v : ℤ) → IsTrue (is_held windows d v) → IsTrue (is_held (windows ++ w ∷ []) d v)
held_more windows w d v h =
    list_any-append (holds_from d v) windows (w ∷ []) ∙ or_left (is_held windows d v) (list_any (holds_from d v) (w ∷ [])) h
