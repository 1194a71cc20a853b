-- A ranker that gives one answer after another, each best of those that are left.
use Rattle.asg_brief.proofs.Common.{◌≡◌, ℕ, ◌+◌, ◌-◌, ◌<◌, ◌≤◌, ◌⊎◌, List, [], ◌∷◌, ◌++◌, length, Contains, Option, sym, refl, ap, ◌∙◌, subst, ⊎_elim, arith, length-append, cases_lt, get_or_append_left, HasNoChoice, Problem, IsValid, Objective, Gives, IsExhausted, Ranking, answer_at, IsBetterChoice, IsNextBest, IsRanking}
use Rattle.asg_rank.specs.declared.ranker.Next.{Next}
use Rattle.asg_rank.specs.declared.ranker.Next.TheVariants.{Answer, Done}
use Rattle.asg_brief.proofs.NextBest.{AreNextBest, ranking_of_next}

-- so many answers were given since the first state, in which there was none
pub record GaveBest {K : Type 0} (objective : Objective) (first now : Ranking K) (n : ℕ) : Type 0 where
  pub many : n ≡ length now.given
  pub few : length now.given ≤ first.count
  pub next : AreNextBest objective first.problem now.given
  pub kind : now.kind ≡ first.kind
  pub problem : now.problem ≡ first.problem
  pub count : now.count ≡ first.count

pub gave_none : {K : Type 0} (objective : Objective) (first : Ranking K) → first.given ≡ [] → GaveBest objective first first 0
gave_none objective first none =
    let empty : length first.given ≡ 0 = ap length none in
    record {
      many = sym empty;
      few = omega (arith, empty);
      next = λ a from upto. absurd (omega (arith, from, upto, empty));
      kind = refl;
      problem = refl;
      count = refl;
    }

-- answers before the last one are best as they were
next_kept : (objective : Objective) (X : Problem) (given : List (List (Option ℕ))) (f : List (Option ℕ)) (a : ℕ) → 1 ≤ a → a ≤ length given → IsNextBest objective X given a → IsNextBest objective X (given ++ f ∷ []) a
next_kept objective X given f a from upto best =
    let kept : (b : ℕ) → 1 ≤ b → b ≤ length given → answer_at given b ≡ answer_at (given ++ f ∷ []) b = λ b from_b upto_b. sym (get_or_append_left given (f ∷ []) [] (b - 1) (omega (arith, from_b, upto_b))) in
    record {
      valid = subst (IsValid X) (kept a from upto) best.valid;
      apart = λ b from_b less same. best.apart b from_b less (kept b from_b (omega (arith, less, upto)) ∙ same ∙ sym (kept a from upto));
      none_better = λ g valid_g others better.
          best.none_better g valid_g (λ b from_b less same. others b from_b less (sym (kept b from_b (omega (arith, less, upto))) ∙ same))
          (subst (λ h. IsBetterChoice objective X g h) (sym (kept a from upto)) better);
    }

pub gave_more : {K : Type 0} (objective : Objective) (first before after : Ranking K) (n number : ℕ) → GaveBest objective first before n → Gives objective before.problem before.count before.given after.given (Answer number)
    → after.kind ≡ before.kind → after.problem ≡ before.problem → after.count ≡ before.count → GaveBest objective first after number
gave_more objective first before after n number gave gives kind problem count = record {
  many = gives.0;
  few = omega (arith, gives.1, gave.count);
  next = next;
  kind = kind ∙ gave.kind;
  problem = problem ∙ gave.problem;
  count = count ∙ gave.count;
}
  where
    added : List (Option ℕ)
    added = gives.2.0

    longer : length after.given ≡ length before.given + 1
    longer = ap length gives.2.1 ∙ (let e : length (before.given ++ added ∷ []) ≡ length before.given + 1 = omega (arith, length-append before.given (added ∷ [])) in e)

    best : IsNextBest objective first.problem after.given number
    best = subst (λ X. IsNextBest objective X after.given number) gave.problem gives.3

    next : AreNextBest objective first.problem after.given
    next a from upto =
        ⊎_elim
        (λ (new : length before.given < a).
        let is : number ≡ a = omega (arith, gives.0, longer, new, upto) in
        subst (IsNextBest objective first.problem after.given) is best)
        (λ (old : a ≤ length before.given).
        subst (λ given. IsNextBest objective first.problem given a) (sym gives.2.1) (next_kept objective first.problem before.given added a from old (gave.next a from old)))
        (cases_lt (length before.given) a)

-- what isn't one more answer says that nothing is left
pub done_of : (objective : Objective) (X : Problem) (count : ℕ) (before after : List (List (Option ℕ))) (result : Next) → ((number : ℕ) → result ≡ Answer number → ⊥) → Gives objective X count before after result → Gives objective X count before after Done
done_of objective X count before after (Answer number) other gives = absurd (other number refl)
done_of objective X count before after Done other gives = gives

-- nothing is left
pub record GaveAll {K : Type 0} (objective : Objective) (first now : Ranking K) (n : ℕ) : Type 0 where
  pub many : n ≡ length now.given
  pub ranking : 1 ≤ n → IsRanking objective first.problem first.count now.given
  pub nothing : n ≡ 0 → 1 ≤ first.count → HasNoChoice first.problem

pub gave_all : {K : Type 0} (objective : Objective) (first before after : Ranking K) (n : ℕ) → GaveBest objective first before n → Gives objective before.problem before.count before.given after.given Done → GaveAll objective first after n
gave_all objective first before after n gave gives = record {
  many = many;
  ranking = λ some.
      let from : 1 ≤ length before.given = omega (arith, some, gave.many) in
      subst (IsRanking objective first.problem first.count) (sym gives.0) (ranking_of_next objective first.problem first.count before.given gave.next from gave.few done);
  nothing = λ none asked f valid.
      ⊎_elim
      (λ (full : length before.given ≡ first.count). absurd (omega (arith, full, none, asked, gave.many)))
      (λ (all : (g : List (Option ℕ)) → IsValid first.problem g → Contains before.given g).
      let within = (all f valid).1 in
      absurd (omega (arith, within, none, gave.many)))
      done;
}
  where
    many : n ≡ length after.given
    many = gave.many ∙ sym (ap length gives.0)

    done : IsExhausted first.problem first.count before.given
    done = subst (λ X. IsExhausted X first.count before.given) gave.problem (subst (λ m. IsExhausted before.problem m before.given) gave.count gives.1)
