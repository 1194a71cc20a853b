-- What a text that tells an outcome says of the instance.
use Rattle.asg_promises.proofs.Common.{ℕ, Bool, true, false, List, [], Option, subst, arith, TellsBest, TellsNone, TellsRanking, IsTrueClaim, Form, Problem, IsValid, Objective}
use Rattle.asg_rankings.specs.Nodes.{answer_at}

-- a choice is valid
abbrev pub HasValid : Problem → Type 0
HasValid X = (f : List (Option ℕ)) × IsValid X f

-- where a best choice is told
pub best_valid : (brief : Bool) (objective : Objective) (X : Problem) (text : List ℕ) → TellsBest brief objective X text → HasValid X
best_valid false objective X text (document, best, told) =
    let truly = subst (IsTrueClaim objective X) best.claims best.written.truly in
    (truly.choice, truly.best.valid)
best_valid true objective X text (value, best, told) = (best.choice, best.best.valid)

-- and where a ranking is
pub ranking_valid : (brief : Bool) (objective : Objective) (X : Problem) (count : ℕ) (text : List ℕ) → TellsRanking brief objective X count text → HasValid X
ranking_valid false objective X count text (document, ranked, told) =
    let truly = subst (IsTrueClaim objective X) ranked.claims ranked.written.truly in
    (answer_at truly.choices 1, truly.ranking.valid 0 [] (omega (arith, truly.ranking.listed.some)))
ranking_valid true objective X count text (answers, first, last, ends, told) =
    (answer_at ends.choices 1, ends.ranking.valid 0 [] (omega (arith, ends.ranking.listed.some)))

-- none is where that is told
pub none_valid : (brief : Bool) (objective : Objective) (X : Problem) (form : Form) (text : List ℕ) → TellsNone brief objective X form text → (f : List (Option ℕ)) → ¬ IsValid X f
none_valid false objective X form text (document, none, told) = subst (IsTrueClaim objective X) none.claims none.written.truly
none_valid true objective X form text (none, told) = none
