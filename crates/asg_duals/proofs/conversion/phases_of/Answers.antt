use Rattle.asg_duals.proofs.Common.{◌≡◌, ℕ, suc, ◌*◌, ◌^◌, ◌<◌, ◌≤◌, length, sym, ap, ◌∙◌, subst, ⊎_elim, pow-suc, arith, cases_eq}
use Rattle.asg_duals.proofs.conversion.phases_of.Goals as goal

doubled : (n m limit : ℕ) → limit ≡ 2 ^ n → m ≡ suc n → limit * 2 ≡ 2 ^ m
doubled n m limit e more = ap (λ x. x * 2) e ∙ sym (pow-suc 2 n) ∙ ap (λ k. 2 ^ k) (sym more)

few_more : (n m limit side : ℕ) → limit ≡ 2 ^ n → m ≡ suc n → limit ≤ side → ((k : ℕ) → k < n → 2 ^ k ≤ side) → (k : ℕ) → k < m → 2 ^ k ≤ side
few_more n m limit side e more within few k h =
    ⊎_elim
    (λ last. subst (λ j. 2 ^ j ≤ side) (sym last) (subst (λ x. x ≤ side) e within))
    (λ before. few k (omega (arith, h, more, before)))
    (cases_eq k n)

pub phases-preserved : goal.phases-preserved
phases-preserved c =
    let n = length c.phases.phases.items in
    let m = length c.push.new.self.items in
    let more : m ≡ suc n = omega (arith, c.in_ok-push.ensures.len) in
    let within : c.phases.limit ≤ c.args.side = omega (arith, c.if-limit-side.false) in
    record {
      limit = doubled n m c.phases.limit c.phases.invariant.limit more;
      few = few_more n m c.phases.limit c.args.side c.phases.invariant.limit more within c.phases.invariant.few;
    }
