-- The marks of a band whose ends move.
use Rattle.asg_window.proofs.Common.{◌≡◌, ℕ, ◌<◌, ◌≤◌, List, length, Some, sym, ap, ◌∙◌, subst, inl, inr, ⊎_elim, arith, cases_eq, cases_lt, same_Some, BitTable, entry_of, entry_at, AreEntries, IsPlaceOf, IsNamed, MarksMore, MarksFewer, Entry, place_of_entry, below_place, from_place, Grid, cell_at, IsWithin, MarksWithin}

module _ (Q : Grid ℕ) (entries : List Entry) (e : AreEntries Q entries) where
  -- what is known of a named cell
  named_cell : (from to r c : ℕ) → to ≤ length entries → IsNamed entries from to r c → (k : ℕ) × (from ≤ k) × (k < to) × (r < Q.side) × (c < Q.side) × (cell_at Q r c ≡ Some (entry_at entries k).grade)
  named_cell from to r c within n =
      let high = n.before in
      let is = e.each n.place (entry_of 0 0 0) (omega (arith, high, within)) in (
        n.place,
        n.after,
        n.before,
        subst (λ s. s < Q.side) n.row is.row_below,
        subst (λ d. d < Q.side) n.column is.column_below,
        subst (λ d. cell_at Q r d ≡ Some (entry_at entries n.place).grade) n.column (subst (λ s. cell_at Q s (entry_at entries n.place).column ≡ Some (entry_at entries n.place).grade) n.row is.cell),
      )

  -- a live cell within a band has a place, and the band's ends tell it
  live_place : (low high r c : ℕ) (w : IsWithin Q low high r c) → 0 < w.grade → (k : ℕ) × (k < length entries) × ((entry_at entries k).grade ≡ w.grade) × ((entry_at entries k).row ≡ r) × ((entry_at entries k).column ≡ c)
  live_place low high r c w live =
      let at = place_of_entry entries (entry_of w.grade r c) (e.every r c w.grade w.row w.column live w.cell) in
      (at.0, at.1, ap (λ (x : Entry). x.grade) at.2, ap (λ (x : Entry). x.row) at.2, ap (λ (x : Entry). x.column) at.2)

  -- the same cell within another band
  within_by : (low high from to r c : ℕ) (w : IsWithin Q low high r c) → (0 < w.grade → (from ≤ w.grade) × (w.grade < to)) → IsWithin Q from to r c
  within_by low high from to r c w inside = record { row = w.row; column = w.column; grade = w.grade; cell = w.cell; inside = inside }

  pub end_up : (B after : BitTable) (low high more end past : ℕ) → low ≤ high → IsPlaceOf entries high end → IsPlaceOf entries more past → end ≤ past → MarksWithin Q low high B → MarksMore B after entries end past → MarksWithin Q low more after
  end_up B after low high more end past order p q up marks puts r c = (
    λ marked.
        ⊎_elim
        (λ had.
        let w = (marks r c).0 had in
        within_by low high low more r c w
        (λ live.
        let k = live_place low high r c w live in
        let inside = w.inside live in
        let less : (entry_at entries k.0).grade < high = let high_in = inside.1 in omega (arith, high_in, k.2) in
        let place = below_place entries high end k.0 p k.1 less in
        let below = q.below k.0 (omega (arith, place, up)) in
        (inside.0, omega (arith, below, k.2))))
        (λ n.
        let k = named_cell end past r c q.within n in
        let least = p.from k.0 k.1 (let within = q.within in let at = k.2 in omega (arith, at, within)) in
        let below = q.below k.0 k.2 in
        record { row = k.3; column = k.4; grade = (entry_at entries k.0).grade; cell = k.5; inside = λ _. (omega (arith, order, least), below) })
        ((puts r c).0 marked),
    λ w.
        ⊎_elim
        (λ (free : w.grade ≡ 0). (puts r c).1 (inl ((marks r c).1 (within_by low more low high r c w (λ live. absurd (omega (arith, free, live)))))))
        (λ some.
        let live : 0 < w.grade = omega (arith, some) in
        let k = live_place low more r c w live in
        let inside = w.inside live in
        let high_in = inside.1 in
        let place = below_place entries more past k.0 q k.1 (omega (arith, high_in, k.2)) in
        ⊎_elim
        (λ (less : k.0 < end).
        let below = p.below k.0 less in
        (puts r c).1 (inl ((marks r c).1 (within_by low more low high r c w (λ _. (inside.0, omega (arith, below, k.2)))))))
        (λ (from : end ≤ k.0). (puts r c).1 (inr (record { place = k.0; after = from; before = place; row = k.3; column = k.4 })))
        (cases_lt k.0 end))
        (cases_eq w.grade 0),
  )

  pub end_down : (B after : BitTable) (low high less end past : ℕ) → IsPlaceOf entries high end → IsPlaceOf entries less past → past ≤ end → MarksWithin Q low high B → MarksFewer B after entries past end → MarksWithin Q low less after
  end_down B after low high less end past p q down marks puts r c = (
    λ marked.
        let both = (puts r c).0 marked in
        let w = (marks r c).0 both.0 in
        within_by low high low less r c w
        (λ live.
        let k = live_place low high r c w live in
        let inside = w.inside live in
        let high_in = inside.1 in
        let place = below_place entries high end k.0 p k.1 (omega (arith, high_in, k.2)) in
        ⊎_elim
        (λ (before : k.0 < past). let below = q.below k.0 before in (inside.0, omega (arith, below, k.2)))
        (λ (from : past ≤ k.0). absurd (both.1 (record { place = k.0; after = from; before = place; row = k.3; column = k.4 })))
        (cases_lt k.0 past)),
    λ w.
        (puts r c).1 (
          (marks r c).1
              (within_by low less low high r c w
              (λ live.
              let k = live_place low less r c w live in
              let inside = w.inside live in
              let high_in = inside.1 in
              let place = below_place entries less past k.0 q k.1 (omega (arith, high_in, k.2)) in
              let below = p.below k.0 (omega (arith, place, down)) in
              (inside.0, omega (arith, below, k.2)))),
          λ n.
              let k = named_cell past end r c p.within n in
              let at = k.2 in
              let from = q.from k.0 k.1 (omega (arith, at, p.within)) in
              let same = same_Some w.grade (entry_at entries k.0).grade (sym w.cell ∙ k.5) in
              let is = e.each k.0 (entry_of 0 0 0) (omega (arith, at, p.within)) in
              let some = is.live in
              let inside = w.inside (omega (arith, same, some)) in
              let high_in = inside.1 in
              omega (arith, same, from, high_in),
        ),
  )

  pub first_up : (B after : BitTable) (low high more first past : ℕ) → low ≤ more → IsPlaceOf entries low first → IsPlaceOf entries more past → MarksWithin Q low high B → MarksFewer B after entries first past → MarksWithin Q more high after
  first_up B after low high more first past up p q marks puts r c = (
    λ marked.
        let both = (puts r c).0 marked in
        let w = (marks r c).0 both.0 in
        within_by low high more high r c w
        (λ live.
        let k = live_place low high r c w live in
        let inside = w.inside live in
        let low_in = inside.0 in
        let place = from_place entries low first k.0 p (omega (arith, low_in, k.2)) in
        ⊎_elim
        (λ (before : k.0 < past). absurd (both.1 (record { place = k.0; after = place; before = before; row = k.3; column = k.4 })))
        (λ (from : past ≤ k.0). let least = q.from k.0 from k.1 in (omega (arith, least, k.2), inside.1))
        (cases_lt k.0 past)),
    λ w.
        (puts r c).1 (
          (marks r c).1 (within_by more high low high r c w (λ live. let inside = w.inside live in let low_in = inside.0 in (omega (arith, up, low_in), inside.1))),
          λ n.
              let k = named_cell first past r c q.within n in
              let at = k.2 in
              let below = q.below k.0 at in
              let same = same_Some w.grade (entry_at entries k.0).grade (sym w.cell ∙ k.5) in
              let is = e.each k.0 (entry_of 0 0 0) (omega (arith, at, q.within)) in
              let some = is.live in
              let inside = w.inside (omega (arith, same, some)) in
              let low_in = inside.0 in
              omega (arith, same, below, low_in),
        ),
  )
