-- Lists that are copied element by element.
use Rattle.asg_edits.proofs.Common.{◌≡◌, ℕ, ◌+◌, ◌<◌, List, [], ◌∷◌, ◌++◌, length, take, slice_get, slice_set, Some, sym, ◌∙◌, arith, get_or_from_slice_get, take_more, take_more_set}

-- one element more
pub copied_more : {A : Type 0} (copy list : List A) (k : ℕ) (x : A) → k < length list → length copy ≡ length list → take k copy ≡ take k list → slice_get list k ≡ Some x
    → take (k + 1) (slice_set copy k x) ≡ take (k + 1) list
copied_more copy list k x within size same found =
    take_more_set copy k x (omega (arith, size, within))
    ∙ (λ i. same i ++ sym (get_or_from_slice_get list k x x found) i ∷ [])
    ∙ sym (take_more list k x within)
