-- Pieces of a list to which more is appended.
use Rattle.asg_nodes.proofs.Common.{◌≡◌, ℕ, ◌+◌, ◌*◌, ◌<◌, ◌≤◌, List, [], ◌∷◌, ◌++◌, length, take, drop, All, sym, refl, ap, ◌∙◌, subst, mul-le-mul_right, arith, length-drop, take_all, All-head, All-push, All-tail, drop-append-le, drop-append_seam, map-append, take-append-le, IsPool, piece, pieces}
use Rattle.std.proofs.lemmas.List.{length-append}
use Rattle.asg_nodes.specs.laws.EntryLists.{add_one_times}

abbrev IsWithin : List ℕ → ℕ × ℕ → Type 0
IsWithin ids span = span.0 + span.1 ≤ length ids

-- a piece that lies within a list is the same where more is appended
pub piece_same : (ids more : List ℕ) (span : ℕ × ℕ) → span.0 + span.1 ≤ length ids → piece (ids ++ more) span ≡ piece ids span
piece_same ids more span within =
    ap (take span.1) (drop-append-le span.0 ids more (omega (arith, within)))
    ∙ take-append-le span.1 (drop span.0 ids) more (let d = length-drop span.0 ids in omega (arith, within, d))

pub pieces_same : (ids more : List ℕ) (spans : List (ℕ × ℕ)) → All (λ span. span.0 + span.1 ≤ length ids) spans → pieces (ids ++ more) spans ≡ pieces ids spans
pieces_same ids more [] within = refl
pieces_same ids more (span ∷ spans) within =
    (λ i. piece_same ids more span (All-head (IsWithin ids) span spans within) i ∷ pieces_same ids more spans (All-tail (IsWithin ids) span spans within) i)

-- the appended part is a piece
pub piece_last : (ids more : List ℕ) → piece (ids ++ more) (length ids, length more) ≡ more
piece_last ids more = ap (take (length more)) (drop-append_seam ids more) ∙ take_all (length more) more (omega arith)

-- the pieces and one more
pub pieces_more : (ids more : List ℕ) (spans : List (ℕ × ℕ)) → All (λ span. span.0 + span.1 ≤ length ids) spans → pieces (ids ++ more) (spans ++ (length ids, length more) ∷ []) ≡ pieces ids spans ++ more ∷ []
pieces_more ids more spans within =
    map-append (piece (ids ++ more)) spans ((length ids, length more) ∷ [])
    ∙ ap (λ xs. xs ++ piece (ids ++ more) (length ids, length more) ∷ []) (pieces_same ids more spans within)
    ∙ ap (λ x. pieces ids spans ++ x ∷ []) (piece_last ids more)

-- one more list of ids finds room
pub room_for : (most width used count : ℕ) → count < most → used ≤ count * width → used + width ≤ most * width
room_for most width used count less within =
    let far = mul-le-mul_right width (let h : count + 1 ≤ most = omega (arith, less) in h) in
    let more = add_one_times count width in
    omega (arith, far, more, within)

pub used_more : (width used count more : ℕ) → used ≤ count * width → more ≤ width → used + more ≤ (count + 1) * width
used_more width used count more within small = let times = add_one_times count width in omega (arith, times, within, small)

-- a pool with one more list
pub IsPool-more : (most width : ℕ) (ids new ids_now : List ℕ) (spans spans_now : List (ℕ × ℕ)) (ids_room spans_room ids_room_now spans_room_now : ℕ) → IsPool most width ids spans ids_room spans_room → length spans < most → length new ≤ width → ids_now ≡ ids ++ new → spans_now ≡ spans ++ (length ids, length new) ∷ [] → ids_room ≤ ids_room_now → spans_room ≤ spans_room_now → IsPool most width ids_now spans_now ids_room_now spans_room_now
IsPool-more most width ids new ids_now spans spans_now ids_room spans_room ids_room_now spans_room_now pool less small ids_are spans_are wider_ids wider_spans =
    let ids_count : length ids_now ≡ length ids + length new = ap length ids_are ∙ length-append ids new in
    let spans_count : length spans_now ≡ length spans + 1 = ap length spans_are ∙ (let e : length (spans ++ (length ids, length new) ∷ []) ≡ length spans + 1 = omega (arith, length-append spans ((length ids, length new) ∷ [])) in e) in
    let used = used_more width (length ids) (length spans) (length new) pool.used small in
    let fit_ids = pool.ids_fit in
    let fit_spans = pool.spans_fit in
    record {
      within = subst (λ xs. All (IsWithin ids_now) xs) (sym spans_are)
          (All-push (IsWithin ids_now) spans (length ids, length new)
          (λ k d h. let old = pool.within k d h in omega (arith, old, ids_count))
          (omega (arith, ids_count)));
      few = omega (arith, spans_count, less);
      used = subst (λ n. length ids_now ≤ n * width) (sym spans_count) (omega (arith, ids_count, used));
      spans_fit = omega (arith, fit_spans, wider_spans);
      ids_fit = omega (arith, fit_ids, wider_ids);
      small = pool.small;
    }
