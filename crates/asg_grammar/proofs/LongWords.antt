-- Numbers of 64 bits, and two of them with a colon between, are spelled without a space.
use Rattle.asg_grammar.proofs.Common.{ℕ, ◌^◌, ◌<◌, ◌≢◌, ◌∷◌, arith, Lacks, long_spelling, long_pair_spelling, IsLegible-long_pair, IsWord, IsLegible-long, Lacks-decimal, All-cons, All-append, decimal}

no_space-long : (n : ℕ) → n < 2 ^ 64 → Lacks 32 (decimal n)
no_space-long n fits = Lacks-decimal 32 n (omega arith) (omega arith)

pub long_word : IsWord long_spelling
long_word = record { legible = IsLegible-long; no_space = no_space-long }

pub long_pair_word : IsWord long_pair_spelling
long_pair_word = record {
  legible = IsLegible-long_pair;
  no_space = λ x hx. All-append (λ b. b ≢ 32) (decimal x.0) (58 ∷ decimal x.1)
      (no_space-long x.0 hx.0)
      (All-cons (λ b. b ≢ 32) 58 (decimal x.1) (λ is. absurd (omega arith)) (no_space-long x.1 hx.1));
}
