use Rattle.asg_window.proofs.Common.{◌≡◌, ℕ, ◌<◌, get_or}
use Rattle.asg_window.proofs.words.has_any.Given as goal

-- no word so far has a bit
abbrev pub invariant-loop-word : goal.invariant-loop-word
invariant-loop-word l = (i : ℕ) → i < l.word-index → get_or l.words i 0 ≡ 0
