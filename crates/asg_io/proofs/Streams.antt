-- Bytes that a writer holds, over several writes.
use Rattle.std.proofs.Common.{◌≡◌, ◌-◌, length, arith, length-drop, ℕ, List, ◌++◌, ◌+◌, take, drop, Option, sym, ap, subst, ◌∙◌}
use Rattle.std.specs.Io.KnownBytes.{Appends}
use Rattle.std.proofs.KnownBytes.{Appends-trans}
use Rattle.std.proofs.lemmas.List.{take_all}
use Rattle.std.proofs.Math.Seq.{take-add}

-- the first bytes of a piece were written, and then the next ones of what was left
pub Appends-more : (a b c : Option (List ℕ)) (piece : List ℕ) (sent count : ℕ) → Appends a b (take sent piece) → Appends b c (take count (take (length piece - sent) (drop sent piece))) → Appends a c (take (sent + count) piece)
Appends-more a b c piece sent count first second =
    let rest : take (length piece - sent) (drop sent piece) ≡ drop sent piece = take_all (length piece - sent) (drop sent piece) (omega (arith, length-drop sent piece)) in
    let both : take sent piece ++ take count (take (length piece - sent) (drop sent piece)) ≡ take (sent + count) piece = ap (λ left. take sent piece ++ take count left) rest ∙ sym (take-add sent count piece) in
    let P : List ℕ → Type 0 = λ put. Appends a c put in
    subst P both (Appends-trans a b c (take sent piece) (take count (take (length piece - sent) (drop sent piece))) first second)
