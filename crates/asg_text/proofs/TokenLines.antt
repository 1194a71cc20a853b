-- The tokens of lines of tokens.
use Rattle.asg_text.proofs.Common.{◌≡◌, ℕ, List, [], ◌∷◌, ◌++◌, All, flat_map, sym, refl, ap, ◌∙◌, append_assoc, All-head, All-tail, join_with_byte, token_line, tokens, is_space, word_first}
use Rattle.asg_tokens.specs.Pieces.{pieces}
use Rattle.asg_tokens.specs.laws.FirstPiece.{pieces_behind}
use Rattle.asg_text.proofs.WrittenNumbers.{IsToken}

-- of one line, before other text
pub tokens_of_line : (line : List (List ℕ)) (rest : List ℕ) → All IsToken line → tokens (token_line line ++ rest) ≡ line ++ tokens rest
tokens_of_line [] rest are = pieces_behind is_space 10 rest refl
tokens_of_line (token ∷ []) rest are =
    let here = All-head IsToken token [] are in
    ap tokens (append_assoc token (10 ∷ []) rest) ∙ word_first is_space token 10 rest here.some here.no_space refl
tokens_of_line (token ∷ next ∷ line) rest are =
    let here = All-head IsToken token (next ∷ line) are in
    let more : List ℕ = join_with_byte 32 (next ∷ line) in
    ap tokens (append_assoc (token ++ 32 ∷ more) (10 ∷ []) rest ∙ append_assoc token (32 ∷ more) (10 ∷ rest) ∙ ap (λ text. token ++ 32 ∷ text) (sym (append_assoc more (10 ∷ []) rest)))
    ∙ word_first is_space token 32 (token_line (next ∷ line) ++ rest) here.some here.no_space refl
    ∙ ap (λ line. token ∷ line) (tokens_of_line (next ∷ line) rest (All-tail IsToken token (next ∷ line) are))

no_tokens : tokens [] ≡ []
unfolding pieces
no_tokens = refl

-- of many lines
pub tokens_of_lines : {A : Type 0} (line : A → List (List ℕ)) (xs : List A) → ((x : A) → All IsToken (line x)) → tokens (flat_map (λ x. token_line (line x)) xs) ≡ flat_map line xs
tokens_of_lines line [] are = no_tokens
tokens_of_lines line (x ∷ xs) are =
    tokens_of_line (line x) (flat_map (λ x. token_line (line x)) xs) (are x) ∙ ap (λ tokens. line x ++ tokens) (tokens_of_lines line xs are)
