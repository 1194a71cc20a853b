-- The names that proofs of this crate cite most, passed on from one place. Declares nothing.
pub use Rattle.asg_model.proofs.Kit.{All, All-cons, All-nil, AllPairs, AllPairs-cons, Contains, Contains-get_or, Equal, FitsSigned, Greater, IfOk-weaker, Less, List, MatchOrdering, Option, Ordering, [], ap, arith, cases_lt, fits_signed_from_abs, flat_map_more, get_or, get_or-remove_above, get_or-remove_below, get_or_append_left, get_or_default, inl, inr, int_chain, int_cmp, int_ranks, length, length-append, length-remove, refl, remove, signed_decimal, subst, suc, sym, take, take_more, zero, ℕ, ℤ, ⊎_elim, ◌++◌, ◌+◌, ◌-◌, ◌<ℤ◌, ◌<◌, ◌∙◌, ◌∷◌, ◌≡◌, ◌≢◌, ◌≤◌, ◌⊎◌}
pub use Rattle.asg_brief.specs.BestValues.{HasNoChoice, IsBestValue}
pub use Rattle.asg_brief.specs.BriefLines.{AreBriefLines, HasFittingCosts, IsBriefLine, IsRankedLine, best_text, ranked_text}
pub use Rattle.asg_brief.specs.RankedEnds.{AreRankedEnds, HasEnds}
pub use Rattle.asg_doc.specs.Text.{spaced_costs}
pub use Rattle.asg_model.specs.Problem.{Problem}
pub use Rattle.asg_model.specs.ValidChoice.{IsValid}
pub use Rattle.asg_model.specs.Values.{choice_value, costs_of, value_of}
pub use Rattle.asg_model.specs.declared.objectives.Objective.{Objective}
pub use Rattle.asg_model.specs.declared.objectives.Objective.TheVariants.{Balanced, Bottleneck, BottleneckMax, Capped, Lex, Sum, SumMax, SumPair, TimeCost}
pub use Rattle.asg_model.specs.declared.objectives.Value.TheVariants.{Many, One, Two}
pub use Rattle.asg_rank.specs.Rankings.{Gives, IsExhausted, Ranking}
pub use Rattle.asg_rankings.specs.Nodes.{answer_at}
pub use Rattle.asg_rankings.specs.Ranked.{IsBetterChoice, IsNextBest, IsRanking}
pub use Rattle.asg_rankings.specs.SearchTrees.{last_answer}
