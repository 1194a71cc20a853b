use Rattle.asg_pool.proofs.Common.{◌≡◌, ℕ, suc, ◌+◌, ◌-◌, ◌*◌, ◌<◌, ◌≤◌, List, [], ◌∷◌, ◌++◌, length, take, drop, set, All, sym, ap, ◌∙◌, subst, arith, length-drop, length-set, length-take-le, All-push, All-set, put_mid, row_fits, same_len_mid, with_items_is, Rows, rows_of}
use Rattle.std.proofs.lemmas.List.{length-append}
use Rattle.asg_pool.proofs.StripLemmas.{place_fits, rows_count, strip_pushed, strip_put}
use Rattle.asg_pool.proofs.strips.Strips.put.Goals as goal

pub slice_bounds-copy_from_slice-end : goal.slice_bounds-copy_from_slice-end
slice_bounds-copy_from_slice-end g c =
    let s = c.self.inside in
    let less = c.if-k-len.true in
    let n = c.len.ensures in
    let len = s.lens.ok.0 in
    let fits = place_fits s.width c.args.k s.lens.items s.values.items (omega (arith, less, n, len)) c.self.invariant.count in
    let same = ap length c.deref_mut.ensures.value in
    let short = c.requires.width in
    let wide = ap (λ v. v.width) c.self.view_is in
    omega (arith, fits, same, short, wide)

pub copy_from_slice-requires : goal.copy_from_slice-requires
copy_from_slice-requires g c =
    let s = c.self.inside in
    let less = c.if-k-len.true in
    let n = c.len.ensures in
    let len = s.lens.ok.0 in
    let fits = place_fits s.width c.args.k s.lens.items s.values.items (omega (arith, less, n, len)) c.self.invariant.count in
    let same = ap length c.deref_mut.ensures.value in
    let short = c.requires.width in
    let width = ap (λ v. v.width) c.self.view_is in
    let row = c.args.row.now in
    let now = c.deref_mut.result.now in
    let at = c.args.k * s.width in
    let wide : at + length row - at ≡ length row = omega arith in
    let rest = length-drop at now in
    ap (λ m. length (take m (drop at now))) wide
    ∙ length-take-le (length row) (drop at now) (omega (arith, rest, fits, same, short, width))

pub index_mut-requires : goal.index_mut-requires
index_mut-requires g c =
    let less = c.if-k-len.true in
    let n = c.len.ensures in
    omega (arith, less, n)

-- there is memory for one more row
pub append-requires : goal.append-requires
append-requires g c =
    let s = c.self.inside in
    let i = c.self.invariant in
    let same = ap (λ v. v.width) c.self.view_is in
    let room = ap (λ v. v.room) c.self.view_is in
    let short = c.requires.width in
    let place = c.requires.room in
    let from = c.if-k-len.false in
    let n = c.len.ensures in
    let len = s.lens.ok.0 in
    let long = s.values.ok.0 in
    let upto = row_fits (length s.lens.items) s.width s.room s.width (omega (arith, from, n, len, place, room)) (omega arith) in
    let count = i.count in
    let fit = i.values_fit in
    record {
      some = c.requires.some;
      width = omega (arith, short, same);
      room = omega (arith, upto, count, fit, long);
    }

pub push_reserved-requires : goal.push_reserved-requires
push_reserved-requires g c =
    let room = ap (λ v. v.room) c.self.view_is in
    let place = c.requires.room in
    let from = c.if-k-len.false in
    let n = c.len.ensures in
    let fit = c.self.invariant.lens_fit in
    omega (arith, from, n, place, room, fit)

pub invariant_of-self : goal.invariant_of-self
invariant_of-self g c =
    let s = c.self.inside in
    let i = c.self.invariant in
    let row = c.args.row.now in
    let at = c.args.k * s.width in
    let now = c.deref_mut.result.now in
    let part = c.copy_from_slice.new.self in
    let same = ap (λ v. v.width) c.self.view_is in
    let written = put_mid at (at + length row - at) now part in
    let long : length written ≡ length s.values.items =
    same_len_mid at (at + length row - at) now part c.copy_from_slice.ensures.len ∙ ap length c.deref_mut.ensures.value in
    let whole = with_items_is s.values written (let len = s.values.ok.0 in omega (arith, long, len)) in
    let lens = length-set s.lens.items c.args.k (length row) in
    let count = i.count in
    let used = i.used in
    let short = c.requires.width in
    record {
      count = ap length whole ∙ long ∙ count ∙ ap (λ n. n * s.width) (sym lens);
      within = All-set (λ n. n ≤ s.width) s.lens.items c.args.k (length row) (omega (arith, short, same)) i.within;
      used = omega (arith, lens, used);
      lens_fit = i.lens_fit;
      values_fit = i.values_fit;
    }

pub invariant_of-self-else-k-len : goal.invariant_of-self-else-k-len
invariant_of-self-else-k-len g c =
    let s = c.self.inside in
    let i = c.self.invariant in
    let row = c.args.row.now in
    let e = c.append.ensures.items in
    let p = c.push_reserved.ensures in
    let same = ap (λ v. v.width) c.self.view_is in
    let room = ap (λ v. v.room) c.self.view_is in
    let short = c.requires.width in
    let place = c.requires.room in
    let from = c.if-k-len.false in
    let n = c.len.ensures in
    let len = s.lens.ok.0 in
    let one = length-append s.lens.items (length row ∷ []) in
    let longer = ap length p.items in
    let lens : length c.push_reserved.new.self.items ≡ suc (length s.lens.items) = omega (arith, longer, one) in
    let times = ap (λ m. m * s.width) lens in
    let values = ap length e.1 in
    let parts = length-append s.values.items (row ++ e.0) in
    let filled = length-append row e.0 in
    let sum = e.2 in
    let count = i.count in
    let fit = i.lens_fit in
    let lens_same = p.capacity in
    let values_fit = i.values_fit in
    let values_more = c.append.ensures.capacity in
    record {
      count = omega (arith, values, parts, filled, sum, count, times);
      within = subst (All (λ m. m ≤ s.width)) (sym p.items) (All-push (λ m. m ≤ s.width) s.lens.items (length row) i.within (omega (arith, short, same)));
      used = omega (arith, lens, from, n, len, place, room);
      lens_fit = omega (arith, fit, lens_same);
      values_fit = omega (arith, values_fit, values_more);
    }

pub returns-then-k-len : goal.returns-then-k-len
returns-then-k-len g c =
    let s = c.self.inside in
    let i = c.self.invariant in
    let row = c.args.row.now in
    let at = c.args.k * s.width in
    let below : c.args.k < length s.lens.items = (let less = c.if-k-len.true in let n = c.len.ensures in let len = s.lens.ok.0 in omega (arith, less, n, len)) in
    let short : length row ≤ s.width = (let w = c.requires.width in let same = ap (λ v. v.width) c.self.view_is in omega (arith, w, same)) in
    let wide : at + length row - at ≡ length row = omega arith in
    let strip : List g.row.T.Denot → Rows g.row.T.Denot = λ values. record { width = s.width; room = s.room; rows = rows_of s.width (set s.lens.items c.args.k (length row)) values } in
    let now = c.deref_mut.result.now in
    let part = c.copy_from_slice.new.self in
    let written = put_mid at (at + length row - at) now part in
    let whole =
    with_items_is s.values written
    (let long = same_len_mid at (at + length row - at) now part c.copy_from_slice.ensures.len in
    let same = ap length c.deref_mut.ensures.value in
    let len = s.values.ok.0 in
    omega (arith, long, same, len)) in
    ap strip whole
    ∙ ap (λ m. strip (put_mid at m now part)) wide
    ∙ ap (λ values. strip (put_mid at (length row) values part)) c.deref_mut.ensures.value
    ∙ ap (λ ys. strip (put_mid at (length row) s.values.items ys)) c.copy_from_slice.ensures.after
    ∙ strip_put s.width s.room s.lens.items s.values.items row c.args.self.now c.self.view_is i.count i.within c.args.k below short

pub returns-else-k-len : goal.returns-else-k-len
returns-else-k-len g c =
    let s = c.self.inside in
    let i = c.self.invariant in
    let row = c.args.row.now in
    let e = c.append.ensures.items in
    let last : c.args.k ≡ length s.lens.items =
    (let from = c.if-k-len.false in let n = c.len.ensures in let len = s.lens.ok.0 in
    let count = rows_count s.width s.lens.items s.values.items in
    let rows = ap (λ v. length v.rows) c.self.view_is in
    let place = c.requires.place in
    omega (arith, from, n, len, count, rows, place)) in
    let strip : List ℕ → List g.row.T.Denot → Rows g.row.T.Denot = λ lens values. record { width = s.width; room = s.room; rows = rows_of s.width lens values } in
    ap (λ lens. strip lens c.append.new.values.items) c.push_reserved.ensures.items
    ∙ ap (strip (s.lens.items ++ length row ∷ [])) e.1
    ∙ strip_pushed s.width s.room s.lens.items s.values.items row c.args.self.now c.self.view_is i.count i.within e.0 c.args.k last
