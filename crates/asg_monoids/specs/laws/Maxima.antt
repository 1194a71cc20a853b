-- The numbers below 2^64 with the greater of two are a d-monoid, with words.
use Rattle.std.proofs.Common.{arith}
use Rattle.std.proofs.lemmas.Bool.Decides.{nat_tests}
use Rattle.asg_order.specs.Monoid.{IsOrderedMonoid}
use Rattle.asg_order.specs.Differences.{HasDifferences}
use Rattle.asg_order.specs.Words.{HasWords}
use Rattle.asg_order.specs.laws.Words.{HasWords-from}
use Rattle.asg_monoids.specs.BoundedSums.{plain_word}
use Rattle.asg_monoids.specs.Maxima.{maxima, maxima_difference, maxima_value}

-- the laws of the numbers
pub maxima_laws : IsOrderedMonoid maxima
maxima_laws = record {
  unit_is_value = grind (arith, nat_tests);
  product_is_value = λ x y vx vy. grind (arith, nat_tests);
  commutative = λ x y vx vy. grind (arith, nat_tests);
  associative = λ x y z vx vy vz. grind (arith, nat_tests);
  unit_neutral = λ x vx. grind (arith, nat_tests);
  total = λ x y vx vy. grind (arith, nat_tests);
  transitive = λ x y z vx vy vz h k. grind (arith, nat_tests);
  antisymmetric = λ x y vx vy h k. grind (arith, nat_tests);
  monotone = λ x y z vx vy vz h. grind (arith, nat_tests);
  unit_least = λ x vx. grind (arith, nat_tests);
}

-- the laws of their differences
pub maxima_difference_laws : HasDifferences maxima maxima_difference
maxima_difference_laws = record {
  difference_is_value = λ y x vy vx. grind (arith, nat_tests);
  least = λ y x z vy vx vz. (λ h. grind (arith, nat_tests), λ h. grind (arith, nat_tests));
  reaches = λ y x vy vx. grind (arith, nat_tests);
}

-- the laws of their words
pub maxima_word_laws : HasWords maxima plain_word maxima_value
maxima_word_laws =
    HasWords-from maxima plain_word maxima_value
    (λ x vx. grind (arith, nat_tests))
    (λ w x e. grind (arith, nat_tests))
