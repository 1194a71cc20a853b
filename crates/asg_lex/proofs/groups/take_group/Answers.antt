use Rattle.asg_lex.proofs.Common.{◌≡◌, ℕ, ◌<◌, ◌≤◌, Bool, true, false, not, List, [], ◌∷◌, length, ◌==◌, sym, refl, ap, ◌∙◌, subst, arith, eqb-true, false≢true, BitTable, bit_square, IsUnderway, IsMarked, MarksFewer, IsPerfect, IsAssignment}
use Rattle.asg_lex.proofs.GroupLemmas.{perfect_of, marked_none}
use Rattle.asg_lex.proofs.GroupSteps.{freed_named}
use Rattle.asg_lex.proofs.groups.take_group.Goals as goal

pub serve_named-requires-clause-perfect : goal.serve_named-requires-clause-perfect
serve_named-requires-clause-perfect c =
    let m = c.args.matching.now in
    let side = length m in
    let before = c.args.work.now.marks.bits in
    let perfect = subst (λ n. IsPerfect (IsMarked before n) side m) c.requires.sized.marks_side c.requires.perfect in
    let by_ones = subst (λ B. IsPerfect (IsMarked B side) side m) (sym c.begin.ensures.ones) perfect in
    let some = perfect_of side m c.begin.new.work.zeros c.begin.new.work.ones by_ones in
    (some.0, subst (λ n. IsAssignment (bit_square c.begin.new.work.zeros c.begin.new.work.ones) n some.0) (sym c.free_rows.ensures.side) some.1)

pub serve_named-requires-clause-named : goal.serve_named-requires-clause-named
serve_named-requires-clause-named c r h =
    let m = c.args.matching.now in
    let side = length m in
    let perfect = subst (λ n. IsPerfect (IsMarked c.args.work.now.marks.bits n) side m) c.requires.sized.marks_side c.requires.perfect in
    freed_named side m c.free_rows.new.matching c.args.work.now.marks.bits c.begin.new.work.zeros c.args.entries.now c.args.from c.args.to perfect c.free_rows.ensures.freed c.begin.ensures.zeros
    r (subst (λ n. r < n) c.free_rows.ensures.side h)

same_side : (side : ℕ) (bits : BitTable) (m : _) (n : ℕ) → n ≡ side → IsPerfect (IsMarked bits n) side m → IsPerfect (IsMarked bits side) side m
same_side side bits m n e h = subst (λ k. IsPerfect (IsMarked bits k) side m) e h

empty_list : {A : Type 0} (xs : List A) (len : ℕ) (empty : Bool) → len ≡ length xs → empty ≡ (len == 0) → not empty ≡ false → xs ≡ []
empty_list [] len empty e is h = refl
empty_list (x ∷ xs) len true e is h = let none = eqb-true len 0 (sym is) in absurd (omega (arith, none, e))
empty_list (x ∷ xs) len false e is h = absurd (false≢true (sym h))

some_list : {A : Type 0} (xs : List A) (len : ℕ) (empty : Bool) → len ≡ length xs → empty ≡ (len == 0) → not empty ≡ true → 0 < length xs
some_list [] len true e is h = absurd (false≢true h)
some_list [] len false e is h = absurd (false≢true (is ∙ ap (λ n. n == 0) e))
some_list (x ∷ xs) len empty e is h = omega arith

pub returns-clause-left_out : goal.returns-clause-left_out
returns-clause-left_out c empty =
    let phases = c.serve_named.new.work.phases in
    let none : phases.items ≡ [] = empty_list phases.items _ c.is_empty.result phases.ok.0 c.is_empty.ensures empty in
    let side = length c.args.matching.now in
    let zeros = subst (λ B. MarksFewer c.args.work.now.marks.bits B c.args.entries.now c.args.from c.args.to) (sym c.in_ok-serve_named.ensures.on.zeros) c.begin.ensures.zeros in
    let underway = subst (λ n. IsUnderway n c.serve_named.new.work) c.free_rows.ensures.side c.in_ok-serve_named.ensures.underway in
    marked_none side c.args.work.now.marks.bits c.serve_named.new.work c.args.entries.now c.args.from c.args.to underway none zeros

pub returns-clause-level : goal.returns-clause-level
returns-clause-level c some =
    let phases = c.serve_named.new.work.phases in
    record {
      underway = subst (λ n. IsUnderway n c.serve_named.new.work) c.free_rows.ensures.side c.in_ok-serve_named.ensures.underway;
      some = some_list phases.items _ c.is_empty.result phases.ok.0 c.is_empty.ensures some;
      few = subst (λ n. length phases.items ≤ n) c.free_rows.ensures.side c.in_ok-serve_named.ensures.few;
      ones = c.in_ok-serve_named.ensures.on.ones ∙ c.begin.ensures.ones;
      zeros = subst (λ B. MarksFewer c.args.work.now.marks.bits B c.args.entries.now c.args.from c.args.to) (sym c.in_ok-serve_named.ensures.on.zeros) c.begin.ensures.zeros;
    }
