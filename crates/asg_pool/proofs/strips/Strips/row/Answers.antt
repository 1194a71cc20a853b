use Rattle.asg_pool.proofs.Common.{◌≡◌, ◌+◌, ◌-◌, ◌*◌, length, get_or, take, drop, sym, ap, ◌∙◌, arith, get_or_default, row_at}
use Rattle.asg_pool.proofs.StripLemmas.{row_is, place_below, place_fits}
use Rattle.asg_pool.proofs.strips.Strips.row.Goals as goal

pub index-requires : goal.index-requires
index-requires g c =
    let s = c.self.inside in
    let below = place_below s.width s.room c.args.k s.lens.items s.values.items c.args.self.now c.self.view_is c.requires in
    let len = s.lens.ok.0 in
    omega (arith, below, len)

pub offset_bounds-deref-first : goal.offset_bounds-deref-first
offset_bounds-deref-first g c =
    let s = c.self.inside in
    let below = place_below s.width s.room c.args.k s.lens.items s.values.items c.args.self.now c.self.view_is c.requires in
    let fits = place_fits s.width c.args.k s.lens.items s.values.items below c.self.invariant.count in
    let same = ap length c.deref.ensures.value in
    omega (arith, fits, same)

pub slice_bounds-result-end : goal.slice_bounds-result-end
slice_bounds-result-end g c =
    let s = c.self.inside in
    let below = place_below s.width s.room c.args.k s.lens.items s.values.items c.args.self.now c.self.view_is c.requires in
    let fits = place_fits s.width c.args.k s.lens.items s.values.items below c.self.invariant.count in
    let same = ap length c.deref.ensures.value in
    let short = c.self.invariant.within c.args.k c.index.result.now below in
    let n = c.index.ensures in
    omega (arith, fits, same, short, n)

pub returns : goal.returns
returns g c =
    let s = c.self.inside in
    let n = c.index.result.now in
    let at = c.args.k * s.width in
    let same : at + n - at ≡ n = omega arith in
    let below = place_below s.width s.room c.args.k s.lens.items s.values.items c.args.self.now c.self.view_is c.requires in
    ap (λ m. take m (drop at c.deref.result.now)) (same ∙ c.index.ensures ∙ get_or_default s.lens.items c.args.k n 0 below)
    ∙ ap (λ xs. take (get_or s.lens.items c.args.k 0) (drop at xs)) c.deref.ensures.value
    ∙ sym (row_is s.width s.lens.items s.values.items c.args.k below)
    ∙ ap (λ v. row_at v c.args.k) c.self.view_is
