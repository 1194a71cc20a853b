-- Texts of lists, one member more.
use Rattle.std.proofs.Common.{◌≡◌, ◌+◌, ◌<◌, ℕ, List, [], ◌∷◌, ◌++◌, length, get_or, take, sym, ap, ◌∙◌}
use Rattle.std.specs.Fmt.{decimal}
use Rattle.std.proofs.lemmas.List.{take_more, flat_map_more}
use Rattle.asg_grammar.specs.Spellings.{spaced}

pub spaced_more : (numbers : List ℕ) (i : ℕ) → i < length numbers
    → spaced (take i numbers) ++ 32 ∷ decimal (get_or numbers i 0) ≡ spaced (take (i + 1) numbers)
spaced_more numbers i within =
    flat_map_more (λ number. 32 ∷ decimal number) [] (take i numbers) (get_or numbers i 0) ∙ ap spaced (sym (take_more numbers i 0 within))
