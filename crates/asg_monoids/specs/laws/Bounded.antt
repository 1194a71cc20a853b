-- The numbers up to top with sums that stop there are a d-monoid, with words.
use Rattle.std.proofs.Common.{ℕ, arith}
use Rattle.std.proofs.lemmas.Bool.Decides.{nat_tests}
use Rattle.asg_order.specs.Monoid.{IsOrderedMonoid}
use Rattle.asg_order.specs.Differences.{HasDifferences}
use Rattle.asg_order.specs.Words.{HasWords}
use Rattle.asg_order.specs.laws.Words.{HasWords-from}
use Rattle.asg_monoids.specs.BoundedSums.{bounded_sums, bounded_difference, plain_word, bounded_value}

-- the laws of the numbers up to top
pub bounded_laws : (top : ℕ) → IsOrderedMonoid (bounded_sums top)
bounded_laws top = record {
  unit_is_value = grind (arith, nat_tests);
  product_is_value = λ x y vx vy. grind (arith, nat_tests);
  commutative = λ x y vx vy. grind (arith, nat_tests);
  associative = λ x y z vx vy vz. grind (arith, nat_tests);
  unit_neutral = λ x vx. grind (arith, nat_tests);
  total = λ x y vx vy. grind (arith, nat_tests);
  transitive = λ x y z vx vy vz h k. grind (arith, nat_tests);
  antisymmetric = λ x y vx vy h k. grind (arith, nat_tests);
  monotone = λ x y z vx vy vz h. grind (arith, nat_tests);
  unit_least = λ x vx. grind (arith, nat_tests);
}

-- the laws of their differences
pub bounded_difference_laws : (top : ℕ) → HasDifferences (bounded_sums top) bounded_difference
bounded_difference_laws top = record {
  difference_is_value = λ y x vy vx. grind (arith, nat_tests);
  least = λ y x z vy vx vz. (λ h. grind (arith, nat_tests), λ h. grind (arith, nat_tests));
  reaches = λ y x vy vx. grind (arith, nat_tests);
}

-- the laws of their words
pub bounded_word_laws : (top : ℕ) → HasWords (bounded_sums top) plain_word (bounded_value top)
bounded_word_laws top =
    HasWords-from (bounded_sums top) plain_word (bounded_value top)
    (λ x vx. grind (arith, nat_tests))
    (λ w x e. grind (arith, nat_tests))
