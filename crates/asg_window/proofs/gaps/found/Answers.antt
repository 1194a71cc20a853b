use Rattle.asg_window.proofs.Common.{sym, ap, subst, IsSpread}
use Rattle.asg_window.proofs.gaps.found.Goals as goal

pub returns : goal.returns
returns c =
    let ends = c.in_ok-ascent.ensures.ascent in
    record {
      spread = subst (λ columns. IsSpread c.args.cells.now.square.now columns c.in_ok-ascent.ascent.spread) (sym (ap (λ v. v.items) c.into_perm.ensures)) ends.spread;
      low = c.in_ok-ascent.ascent.low;
      all = c.in_ok-ascent.ensures.all;
      gaps = ends.gaps;
    }
