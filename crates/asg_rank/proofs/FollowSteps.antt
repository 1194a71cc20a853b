-- What the next answer is.
use Rattle.asg_rank.proofs.Common.{◌≡◌, ℕ, List, length, Contains, Option, sym, refl, ◌∙◌, subst, inl, inr, ⊎_elim, arith, length-take-le, IsOneMore, given_of, IsReady, Search, Problem, IsValid, Rules, GivesLeast, Answer, Done}
use Rattle.asg_rank.proofs.EndSteps.{nothing_left}

module _ {V : Type 0} (R : Rules V) (X : Problem) (most : ℕ) where
  -- as many answers as were counted
  pub counted_ready : (S : Search V) → IsReady R X most S → length (given_of S) ≡ S.given
  counted_ready S ready = let c = ready.memory.choices_fit in let g = ready.memory.given_fit in length-take-le S.given S.choices.items (omega (arith, c, g))

  -- where no node is kept
  pub done_least : (S : Search V) → IsReady R X most S → S.given ≡ length S.slots.used → GivesLeast R X most (given_of S) (given_of S) Done
  done_least S ready none = (
    refl,
    ⊎_elim
        (λ (full : length (given_of S) ≡ S.slots.room). inl (full ∙ ready.room_is))
        (λ (all : (g : List (Option ℕ)) → IsValid X g → Contains (given_of S) g). inr all)
        (nothing_left R X (given_of S) S.slots S.tree ready.search (counted_ready S ready ∙ none)),
  )

  -- where one answer more was given
  pub answered_least : (S U W : Search V) → IsOneMore R X (given_of S) (given_of U) → given_of W ≡ given_of U → IsReady R X most W → GivesLeast R X most (given_of S) (given_of W) (Answer W.given)
  answered_least S U W more same ready =
      let counted = counted_ready W ready in
      let fit = ready.memory.given_fit in
      let room = ready.room_is in (
        sym counted,
        omega (arith, counted, fit, room),
        subst (IsOneMore R X (given_of S)) (sym same) more,
      )
