use Rattle.asg_lex.proofs.Common.{ℕ, ◌<◌, ◌≤◌, entry_at, Matches}
use Rattle.asg_lex.proofs.groups.has_matched.Given as goal

-- none so far
abbrev pub invariant-loop-place : goal.invariant-loop-place
invariant-loop-place l =
    record {
      none : (k : ℕ) → l.from ≤ k → k < l.place → Matches l.matching (entry_at l.entries k).row (entry_at l.entries k).column → ⊥;
    }
