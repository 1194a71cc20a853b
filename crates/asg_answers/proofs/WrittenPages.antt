-- Bytes that were written over a blank page, which was then emptied.
use Rattle.asg_answers.proofs.Common.{◌≡◌, ℕ, true, false, List, ◌++◌, Option, sym, ap, ◌∙◌, subst, inl, inr, both_ways, cases_Bool, Puts-append, PutsPrefix-append, Rose, Puts, PutsPrefix}
use Rattle.asg_doc.specs.Flow.{Wrote, Emptied}
use Rattle.asg_doc.specs.PageState.{PageState, blank}
use Rattle.asg_doc.specs.laws.Flows.{Rose-later}

module _ {S : Type 0} {written : S → Option (List ℕ)} {faults : S → ℕ} {before between after : S} {old middle new : PageState} {bytes : List ℕ} (start : old ≡ blank) (wrote : Wrote written faults before between old middle bytes) (emptied : Emptied written faults between after middle new) where
  whole : old.broken ≡ false
  whole = ap (λ page. page.broken) start

  of_bytes : old.held ++ bytes ≡ bytes
  of_bytes = ap (λ page. page.held ++ bytes) start

  -- the page stays whole: the bytes were put
  pub put_whole : new.broken ≡ false → Puts (written before) (written after) bytes
  put_whole standing =
      elim (cases_Bool middle.broken) [
        | inl broken ↦ absurd (both_ways new.broken standing (emptied.refused broken).0)
        | inr was ↦
            let flow = wrote.flows whole was in
            subst (Puts (written before) (written after)) (flow.whole ∙ of_bytes) (Puts-append flow.puts (emptied.puts was standing))
      ]

  -- it breaks: a prefix of them was, by a fault
  pub put_prefix : new.broken ≡ true → PutsPrefix (written before) (written after) bytes
  put_prefix broken =
      elim (cases_Bool middle.broken) [
        | inl earlier ↦
            subst (PutsPrefix (written before) (written after)) of_bytes (subst (λ now. PutsPrefix (written before) now (old.held ++ bytes)) (sym (emptied.refused earlier).1) (wrote.prefix whole earlier))
        | inr standing ↦
            let flow = wrote.flows whole standing in
            subst (PutsPrefix (written before) (written after)) (flow.whole ∙ of_bytes) (PutsPrefix-append flow.puts (emptied.prefix standing broken))
      ]

  pub fault_rose : new.broken ≡ true → Rose (faults before) (faults after)
  fault_rose broken =
      elim (cases_Bool middle.broken) [
        | inl earlier ↦ subst (Rose (faults before)) (sym (emptied.refused earlier).2) (wrote.cause whole earlier)
        | inr standing ↦ Rose-later _ _ _ wrote.never_falls (emptied.cause standing broken)
      ]
