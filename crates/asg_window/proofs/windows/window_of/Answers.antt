use Rattle.asg_window.proofs.Common.{FitsSigned, sym, ◌∙◌, subst, to_z-of_z, w64}
use Rattle.asg_window.proofs.windows.window_of.Goals as goal

pub returns : goal.returns
returns c =
    let lo = to_z-of_z w64 c.cost-lo.result c.cost-lo.ensures.fits in
    let hi = to_z-of_z w64 c.cost_under-hi.result c.cost_under-hi.ensures.fits in
    record {
      lo = lo ∙ c.cost-lo.ensures.value;
      hi = hi ∙ c.cost_under-hi.ensures.value;
      rows = c.in_ok-rows.ensures;
      kept = record {
        lo_fits = subst (FitsSigned w64) (sym lo) c.cost-lo.ensures.fits;
        hi_fits = subst (FitsSigned w64) (sym hi) c.cost_under-hi.ensures.fits;
        rows_are_ids = c.len-count.ensures.within;
      };
    }
