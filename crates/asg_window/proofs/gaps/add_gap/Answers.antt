use Rattle.asg_window.proofs.Common.{◌+◌, ◌-◌, sym, refl, subst, arith, All-push, IsDeficient, IsWithin, IsGap, ShowLeast, Gap}
use Rattle.asg_window.proofs.GapLemmas.{chained_push}
use Rattle.asg_window.proofs.gaps.add_gap.Goals as goal

pub returns : goal.returns
returns c =
    let before = c.args.ascent.now in
    let next = c.args.next in
    let after = next - before.spread + 1 in
    let gap : Gap = record { low = before.low; high = next; rows = c.in_ok-rows.rows } in
    record {
      spread = refl;
      up = omega (arith, c.requires.above);
      fits = omega (arith, c.requires.above, c.requires.some, c.ranges.next);
      gaps = λ Q short shown.
          let is_gap : IsGap Q gap = subst (IsDeficient (IsWithin Q before.low next) Q.side) (sym c.in_ok-rows.ensures.items) short in
          subst (λ xs. ShowLeast Q xs after before.spread) (sym c.in_ok-push.ensures.items)
          (record {
            each = All-push (IsGap Q) before.gaps.items gap shown.each is_gap;
            chained = chained_push before.gaps.items gap before.low after refl before.spread shown.chained (omega (arith, c.requires.above));
          });
    }
