use Rattle.asg_replays.proofs.Common.{◌≡◌, ℕ, IfSome, None, Option, Some, sym, ap, ◌∙◌, subst, bounded_sums, bounded_difference, plain_word, narrow_top, AreReplayed, Grid}
use Rattle.asg_admit.specs.Reduced.{IsReduced}
use Rattle.asg_replays.proofs.narrow_lists.narrow_led.Goals as goal

-- what is handed on where something holds of the end
handed_on : {R : Type 0} {B : Type 0} (P : R → Type 0) (led : Option R) (end : R) → IfSome led (λ x. (x ≡ end) × B) → (B → P end) → IfSome led P
handed_on P None end is made = tt
handed_on P (Some x) end is made = subst P (sym is.0) (made is.1)

pub keep-requires : goal.keep-requires
keep-requires c =
    let start = c.args.start.now in
    subst (λ (Q : Grid ℕ). IsReduced (bounded_sums narrow_top) (record { now = Q; index = start.index })) (sym c.in_ok-now.ensures) c.requires

pub first_bad-requires : goal.first_bad-requires
first_bad-requires c =
    let start = c.args.start.now in
    subst (IsReduced (bounded_sums narrow_top)) (sym (c.in_ok-square.ensures ∙ ap (λ (Q : Grid ℕ). record { now = Q; index = start.index }) c.in_ok-now.ensures)) c.requires

pub returns-in-Ok : goal.returns-in-Ok
returns-in-Ok c =
    let start = c.args.start.now in
    let same = c.in_ok-square.ensures ∙ ap (λ (Q : Grid ℕ). record { now = Q; index = start.index }) c.in_ok-now.ensures in
    handed_on (AreReplayed (bounded_sums narrow_top) bounded_difference plain_word c.args.phases.now start) c.led_by.result c.first_bad.new.square c.led_by.ensures
    (λ none. subst (λ before. AreReplayed (bounded_sums narrow_top) bounded_difference plain_word c.args.phases.now before c.first_bad.new.square) same (c.in-Ok.ensures.none none))
