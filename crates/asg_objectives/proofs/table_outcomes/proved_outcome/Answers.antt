use Rattle.std.specs.Prelude.{◌^◌}
use Rattle.asg_objectives.proofs.Common.{◌≡◌, ℕ, List, map, All, sym, ap, ◌∙◌, subst, square_side, bounded_sums, plain_word, IsValue, Word, ProvesPhases, PhaseOf, worded, AreFewPhases}
use Rattle.asg_objectives.proofs.table_outcomes.proved_outcome.Goals as goal

pub words_of-requires : goal.words_of-requires
words_of-requires c =
    subst (λ (ps : List (PhaseOf ℕ)). All (λ phase. All (IsValue (bounded_sums (2 ^ 120))) phase.steps) ps) c.as_slice.ensures.value
    (c.in_ok-proves.ensures.values c.if-not-branch.false)

pub returns-clause-outcome : goal.returns-clause-outcome
returns-clause-outcome c =
    let X = c.args.inst.now in
    let words : map (worded plain_word) c.as_slice.result.now ≡ c.in_ok-words.words = ap (map (worded plain_word)) c.as_slice.ensures.value ∙ sym c.in_ok-words.ensures in
    record {
      valid = c.is_valid.ensures.0 c.if-not-is_valid.false;
      proved = subst (λ (ws : List (PhaseOf Word)). ProvesPhases c.args.objective X c.args.choice ws) words (c.in_ok-proves.ensures.proved c.if-not-branch.false);
    }

pub returns-clause-phases : goal.returns-clause-phases
returns-clause-phases c =
    let words : map (worded plain_word) c.as_slice.result.now ≡ c.in_ok-words.words = ap (map (worded plain_word)) c.as_slice.ensures.value ∙ sym c.in_ok-words.ensures in
    subst (λ (ws : List (PhaseOf Word)). AreFewPhases (square_side c.args.inst.now) ws) words (c.in_ok-proves.ensures.few c.if-not-branch.false)
