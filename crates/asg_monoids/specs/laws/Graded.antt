-- Pairs of a grade and a value of a d-monoid are a d-monoid, and those of a bounded sum have words.
use Rattle.std.proofs.Common.{◌≡◌, ℕ, ◌<◌, true, false, arith, inl, inr}
use Rattle.std.proofs.lemmas.Bool.{cases_lt, cases_Bool}
use Rattle.std.proofs.lemmas.Bool.Decides.{nat_tests}
use Rattle.asg_order.specs.Monoid.{Monoid, IsValue, IsLe, IsOrderedMonoid}
use Rattle.asg_order.specs.Differences.{HasDifferences}
use Rattle.asg_order.specs.laws.Orders.{le_product}
use Rattle.asg_order.specs.Words.{HasWords}
use Rattle.asg_order.specs.laws.Words.{HasWords-from}
use Rattle.asg_monoids.specs.BoundedSums.{bounded_sums}
use Rattle.asg_monoids.specs.Grades.{graded, graded_difference, graded_word, graded_value}

pub by_grades : {P : Type 0} (a b : ℕ) → (a < b → P) → (b < a → P) → (a ≡ b → P) → P
by_grades a b lower higher same =
    elim (cases_lt a b) [
      | inl lt ↦ lower lt
      | inr le ↦ elim (cases_lt b a) [ inl gt ↦ higher gt | inr ge ↦ same (omega arith) ]
    ]

module _ {V : Type 0} (B : Monoid V) (laws : IsOrderedMonoid B) where
  inner_value : (x : ℕ × V) → IsValue (graded B) x → IsValue B x.1
  inner_value x vx = grind (arith, nat_tests)

  -- the laws of graded values
  pub graded_laws : IsOrderedMonoid (graded B)
  graded_laws = record {
    unit_is_value = let p = laws.unit_is_value in grind (arith, nat_tests);
    product_is_value = λ x y vx vy.
        let p = laws.product_is_value x.1 y.1 (inner_value x vx) (inner_value y vy) in grind (arith, nat_tests);
    commutative = λ x y vx vy.
        let p = laws.commutative x.1 y.1 (inner_value x vx) (inner_value y vy) in grind (arith, nat_tests);
    associative = λ x y z vx vy vz.
        let p = laws.associative x.1 y.1 z.1 (inner_value x vx) (inner_value y vy) (inner_value z vz) in grind (arith, nat_tests);
    unit_neutral = λ x vx. let p = laws.unit_neutral x.1 (inner_value x vx) in grind (arith, nat_tests);
    total = λ x y vx vy.
        let p = laws.total x.1 y.1 (inner_value x vx) (inner_value y vy) in grind (arith, nat_tests);
    transitive = λ x y z vx vy vz h k.
        let p = laws.transitive x.1 y.1 z.1 (inner_value x vx) (inner_value y vy) (inner_value z vz) in grind (arith, nat_tests);
    antisymmetric = λ x y vx vy h k.
        let p = laws.antisymmetric x.1 y.1 (inner_value x vx) (inner_value y vy) in grind (arith, nat_tests);
    monotone = λ x y z vx vy vz h.
        let p = laws.monotone x.1 y.1 z.1 (inner_value x vx) (inner_value y vy) (inner_value z vz) in grind (arith, nat_tests);
    unit_least = λ x vx. let p = laws.unit_least x.1 (inner_value x vx) in grind (arith, nat_tests);
  }

  module _ (difference : V → V → V) (has : HasDifferences B difference) where
    more : ℕ × V → ℕ × V → ℕ × V
    more y x = graded_difference B difference y x

    -- the difference is at most z, so y is at most the product of x and z: by the grades of x and
    -- y, and where they are equal by their values
    reached_from_lower : (y x z : ℕ × V) → x.0 < y.0 → IsLe (graded B) (more y x) z → IsLe (graded B) y ((graded B).product x z)
    unfolding more
    reached_from_lower y x z lt h = grind (arith, nat_tests)

    reached_from_higher : (y x z : ℕ × V) → y.0 < x.0 → IsLe (graded B) (more y x) z → IsLe (graded B) y ((graded B).product x z)
    unfolding more
    reached_from_higher y x z lt h = grind (arith, nat_tests)

    reached_already : (y x z : ℕ × V) → x.0 ≡ y.0 → B.is_le y.1 x.1 ≡ true → IsLe B y.1 (B.product x.1 z.1) → IsLe (graded B) y ((graded B).product x z)
    reached_already y x z same le q = grind (arith, nat_tests)

    reached_within : (y x z : ℕ × V) → x.0 ≡ y.0 → B.is_le y.1 x.1 ≡ false → (IsLe B (difference y.1 x.1) z.1 → IsLe B y.1 (B.product x.1 z.1)) → IsLe (graded B) (more y x) z → IsLe (graded B) y ((graded B).product x z)
    unfolding more
    reached_within y x z same over p h = grind (arith, nat_tests)

    -- y is at most the product of x and z, so the difference is at most z
    least_from_lower : (y x z : ℕ × V) → x.0 < y.0 → IsLe (graded B) y ((graded B).product x z) → IsLe (graded B) (more y x) z
    unfolding more
    least_from_lower y x z lt h = grind (arith, nat_tests)

    least_from_higher : (y x z : ℕ × V) → y.0 < x.0 → IsLe B B.unit z.1 → IsLe (graded B) (more y x) z
    unfolding more
    least_from_higher y x z lt u = grind (arith, nat_tests)

    least_already : (y x z : ℕ × V) → x.0 ≡ y.0 → B.is_le y.1 x.1 ≡ true → IsLe B B.unit z.1 → IsLe (graded B) (more y x) z
    unfolding more
    least_already y x z same le u = grind (arith, nat_tests)

    least_within : (y x z : ℕ × V) → x.0 ≡ y.0 → B.is_le y.1 x.1 ≡ false → (IsLe B y.1 (B.product x.1 z.1) → IsLe B (difference y.1 x.1) z.1) → IsLe (graded B) y ((graded B).product x z) → IsLe (graded B) (more y x) z
    unfolding more
    least_within y x z same over p h = grind (arith, nat_tests)

    reached : (y x z : ℕ × V) → IsValue (graded B) y → IsValue (graded B) x → IsValue (graded B) z → IsLe (graded B) (graded_difference B difference y x) z → IsLe (graded B) y ((graded B).product x z)
    unfolding more
    reached y x z vy vx vz h =
        let inner_y = inner_value y vy in
        let inner_x = inner_value x vx in
        let inner_z = inner_value z vz in
        by_grades x.0 y.0
        (λ lt. reached_from_lower y x z lt h)
        (λ lt. reached_from_higher y x z lt h)
        (λ same. elim (cases_Bool (B.is_le y.1 x.1)) [
          | inl le ↦ reached_already y x z same le
              (laws.transitive y.1 x.1 (B.product x.1 z.1) inner_y inner_x (laws.product_is_value x.1 z.1 inner_x inner_z) le (le_product B laws x.1 z.1 inner_x inner_z))
          | inr over ↦ reached_within y x z same over (has.least y.1 x.1 z.1 inner_y inner_x inner_z).0 h
        ])

    least : (y x z : ℕ × V) → IsValue (graded B) y → IsValue (graded B) x → IsValue (graded B) z → IsLe (graded B) y ((graded B).product x z) → IsLe (graded B) (graded_difference B difference y x) z
    unfolding more
    least y x z vy vx vz h =
        let inner_y = inner_value y vy in
        let inner_x = inner_value x vx in
        let inner_z = inner_value z vz in
        let u = laws.unit_least z.1 inner_z in
        by_grades x.0 y.0
        (λ lt. least_from_lower y x z lt h)
        (λ lt. least_from_higher y x z lt u)
        (λ same. elim (cases_Bool (B.is_le y.1 x.1)) [
          | inl le ↦ least_already y x z same le u
          | inr over ↦ least_within y x z same over (has.least y.1 x.1 z.1 inner_y inner_x inner_z).1 h
        ])

    -- the laws of the differences of graded values
    pub graded_difference_laws : HasDifferences (graded B) (graded_difference B difference)
    graded_difference_laws = record {
      difference_is_value = λ y x vy vx.
          let p = has.difference_is_value y.1 x.1 (inner_value y vy) (inner_value x vx) in
          let u = laws.unit_is_value in
          grind (arith, nat_tests);
      least = λ y x z vy vx vz. (reached y x z vy vx vz, least y x z vy vx vz);
      reaches = λ y x vy vx.
          let p = has.reaches y.1 x.1 (inner_value y vy) (inner_value x vx) in
          grind (arith, nat_tests);
    }

-- the laws of the words of graded bounded sums
pub graded_word_laws : (top : ℕ) → HasWords (graded (bounded_sums top)) graded_word (graded_value top)
graded_word_laws top =
    HasWords-from (graded (bounded_sums top)) graded_word (graded_value top)
    (λ x vx. grind (arith, nat_tests))
    (λ w x e. grind (arith, nat_tests))
