-- Where an edit raises or removes live cells all phases are kept.
use Rattle.asg_repair.proofs.Common.{◌≡◌, ℕ, List, length, take, Option, subst, arith, take_all, kept_all, kept_once, edited_side, edited, Problem, square_side, Edit, Cost, Monoid, IsOrderedMonoid, AreKept, EntersValues, IsRaised, PhaseOf, AreAdmittedPhases, HasValues, AreRaised, HasValues-square_cell, square_cell}

-- phases that are admitted from a square are so where its cells were raised or removed
abbrev pub StayAdmitted : {V : Type 0} → Monoid V → (V → V → V) → Type 0
StayAdmitted {V} M difference =
    (side : ℕ) (phases : List (PhaseOf V)) (before after : ℕ → ℕ → Option V)
    → HasValues M side before
    → HasValues M side after
    → AreRaised M side before after
    → AreAdmittedPhases M difference side phases before
    → AreAdmittedPhases M difference side phases after

-- the cells of the square were raised or removed where live cells of the instance were
abbrev pub RaiseSquares : {V : Type 0} → Monoid V → Type 0
RaiseSquares {V} M =
    (enter : Cost → V) (X Y : Problem)
    → EntersValues M enter Y
    → IsRaised M enter X Y
    → AreRaised M (square_side X) (square_cell X M.unit enter) (square_cell Y M.unit enter)

pub raised_all : {V : Type 0} (M : Monoid V) → IsOrderedMonoid M → (difference : V → V → V) → StayAdmitted M difference → RaiseSquares M → (enter : Cost → V) (X : Problem) (edit : Edit) (phases : List (PhaseOf V)) (n : ℕ) → EntersValues M enter X → EntersValues M enter (edited X edit) → IsRaised M enter X (edited X edit) → AreAdmittedPhases M difference (square_side X) phases (square_cell X M.unit enter) → AreKept M difference (square_side (edited X edit)) phases (square_cell (edited X edit) M.unit enter) n → take n phases ≡ phases
raised_all M laws difference stay squares enter X edit phases n live live_after raised admitted kept =
    let Y = edited X edit in
    let side = square_side X in
    let old = square_cell X M.unit enter in
    let new = square_cell Y M.unit enter in
    let same = edited_side X edit in
    let values : HasValues M side new = subst (λ k. HasValues M k new) same (HasValues-square_cell M laws enter Y live_after) in
    let still = stay side phases old new (HasValues-square_cell M laws enter X live) values (squares enter X Y live_after raised) admitted in
    let one : AreKept M difference side phases new n = subst (λ k. AreKept M difference k phases new n) same kept in
    let all = kept_once M difference side phases new n (length phases) one (kept_all M difference side phases new still) in
    take_all n phases (omega (arith, all))
