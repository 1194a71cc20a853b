-- A ranker that gives one answer after another until nothing is left to give.
use Rattle.asg_rank.proofs.Common.{◌≡◌, ℕ, ◌-◌, ◌≤◌, List, [], ◌∷◌, ◌++◌, length, get_or, All, Option, sym, refl, ap, ◌∙◌, subst, arith, All-nil, All-push, get_or-append_seam, IsValid, Objective, Gives, IsExhausted, Ranking, Answer, Done, answer_at}
use Rattle.std.proofs.Common.{length-append}

-- so many answers were given since the first state, in which there was none, all of them valid
pub record Gave {K : Type 0} (first now : Ranking K) (n : ℕ) : Type 0 where
  pub many : n ≡ length now.given
  pub few : length now.given ≤ now.count
  pub valid : All (IsValid now.problem) now.given
  pub kind : now.kind ≡ first.kind
  pub problem : now.problem ≡ first.problem
  pub count : now.count ≡ first.count

pub gave_none : {K : Type 0} (first : Ranking K) → first.given ≡ [] → Gave first first 0
gave_none first none = record {
  many = sym (ap length none);
  few = omega (arith, ap length none);
  valid = subst (All (IsValid first.problem)) (sym none) (All-nil (IsValid first.problem));
  kind = refl;
  problem = refl;
  count = refl;
}

-- the last of answers is what was added
last_added : (before after : List (List (Option ℕ))) (f : List (Option ℕ)) → after ≡ before ++ f ∷ [] → answer_at after (length after) ≡ f
last_added before after f is =
    let place : length (before ++ f ∷ []) - 1 ≡ length before = omega (arith, length-append before (f ∷ [])) in
    ap (λ answers. answer_at answers (length answers)) is
    ∙ ap (λ k. get_or (before ++ f ∷ []) k []) place
    ∙ get_or-append_seam before f [] []

pub gave_more : {K : Type 0} (objective : Objective) (first before after : Ranking K) (n number : ℕ) → Gave first before n → Gives objective before.problem before.count before.given after.given (Answer number)
    → after.kind ≡ before.kind → after.problem ≡ before.problem → after.count ≡ before.count → Gave first after number
gave_more objective first before after n number gave gives kind problem count = record {
  many = gives.0;
  few = omega (arith, gives.1, count);
  valid = subst (λ X. All (IsValid X) after.given) (sym problem) all;
  kind = kind ∙ gave.kind;
  problem = problem ∙ gave.problem;
  count = count ∙ gave.count;
}
  where
    added : List (Option ℕ)
    added = gives.2.0

    last : answer_at after.given number ≡ added
    last = ap (answer_at after.given) gives.0 ∙ last_added before.given after.given added gives.2.1

    all : All (IsValid before.problem) after.given
    all =
        subst (All (IsValid before.problem)) (sym gives.2.1)
        (All-push (IsValid before.problem) before.given added gave.valid (subst (IsValid before.problem) last gives.3.valid))

-- nothing is left
pub gave_all : {K : Type 0} (objective : Objective) (first before after : Ranking K) (n : ℕ) → Gave first before n → Gives objective before.problem before.count before.given after.given Done
    → after.kind ≡ before.kind → after.problem ≡ before.problem → after.count ≡ before.count → Gave first after n × IsExhausted after.problem after.count after.given
gave_all objective first before after n gave gives kind problem count = (
  record {
    many = gave.many ∙ sym (ap length gives.0);
    few = omega (arith, gave.few, ap length gives.0, count);
    valid = subst (λ X. All (IsValid X) after.given) (sym problem) (subst (All (IsValid before.problem)) (sym gives.0) gave.valid);
    kind = kind ∙ gave.kind;
    problem = problem ∙ gave.problem;
    count = count ∙ gave.count;
  },
  subst (λ X. IsExhausted X after.count after.given) (sym problem)
      (subst (λ m. IsExhausted before.problem m after.given) (sym count) (subst (IsExhausted before.problem before.count) (sym gives.0) gives.1)),
)
