-- Texts of lists, one member more.
use Rattle.asg_doc.proofs.Common.{◌≡◌, ℕ, ◌+◌, ◌<◌, Bool, List, [], ◌∷◌, ◌++◌, map, length, get_or, take, ℤ, codes, decimal, flat_map, sym, ap, ◌∙◌, append_assoc, flat_map_more, map-append, signed_decimal, take_more, spaced, spaced_costs, column_text, spaced_columns, ended, cell_line, step_text, spaced_steps, window_line, Word}
use Rattle.asg_grammar.specs.laws.LineCuts.{ended-append}
use Rattle.asg_proof.specs.declared.windows.Window.{Window}

pub costs_more : (costs : List ℤ) (i : ℕ) (cost : ℤ) → i < length costs
    → spaced_costs (take i costs) ++ 32 ∷ signed_decimal (get_or costs i cost) ≡ spaced_costs (take (i + 1) costs)
costs_more costs i cost within =
    flat_map_more (λ one. 32 ∷ signed_decimal one) [] (take i costs) (get_or costs i cost) ∙ ap spaced_costs (sym (take_more costs i cost within))

pub columns_more : (columns : List ℕ) (i : ℕ) → i < length columns
    → spaced_columns (take i columns) ++ 32 ∷ decimal (get_or columns i 0 + 1) ≡ spaced_columns (take (i + 1) columns)
columns_more columns i within =
    flat_map_more (λ column. 32 ∷ column_text column) [] (take i columns) (get_or columns i 0) ∙ ap spaced_columns (sym (take_more columns i 0 within))

pub cells_more : (cells : List (ℕ × ℕ)) (i : ℕ) (cell : ℕ × ℕ) → i < length cells
    → ended (map cell_line (take i cells)) ++ (cell_line (get_or cells i cell) ++ 10 ∷ []) ≡ ended (map cell_line (take (i + 1) cells))
cells_more cells i cell within =
    let last = get_or cells i cell in
    flat_map_more (λ line. line ++ 10 ∷ []) [] (map cell_line (take i cells)) (cell_line last)
    ∙ ap ended (sym (map-append cell_line (take i cells) (last ∷ [])) ∙ ap (map cell_line) (sym (take_more cells i cell within)))

-- the line of a window, piece by piece
pub window_whole : (window : Window) → codes "window " ++ ((signed_decimal window.lo ++ 32 ∷ signed_decimal window.hi) ++ (spaced window.rows ++ 10 ∷ [])) ≡ window_line window ++ 10 ∷ []
window_whole window =
    ap (λ rest. codes "window " ++ rest) (append_assoc (signed_decimal window.lo) (32 ∷ signed_decimal window.hi) (spaced window.rows ++ 10 ∷ [])
    ∙ ap (λ rest. signed_decimal window.lo ++ 32 ∷ rest) (sym (append_assoc (signed_decimal window.hi) (spaced window.rows) (10 ∷ [])))
    ∙ sym (append_assoc (signed_decimal window.lo) (32 ∷ (signed_decimal window.hi ++ spaced window.rows)) (10 ∷ [])))

pub windows_more : (windows : List Window) (i : ℕ) (window : Window) → i < length windows
    → ended (map window_line (take i windows)) ++ (window_line (get_or windows i window) ++ 10 ∷ []) ≡ ended (map window_line (take (i + 1) windows))
windows_more windows i window within =
    let last = get_or windows i window in
    flat_map_more (λ line. line ++ 10 ∷ []) [] (map window_line (take i windows)) (window_line last)
    ∙ ap ended (sym (map-append window_line (take i windows) (last ∷ [])) ∙ ap (map window_line) (sym (take_more windows i window within)))

pub steps_more : (graded : Bool) (steps : List Word) (i : ℕ) (step found : Word) → i < length steps → found ≡ get_or steps i step
    → spaced_steps graded (take i steps) ++ 32 ∷ step_text graded found ≡ spaced_steps graded (take (i + 1) steps)
steps_more graded steps i step found within is =
    ap (λ one. spaced_steps graded (take i steps) ++ 32 ∷ step_text graded one) is
    ∙ flat_map_more (λ one. 32 ∷ step_text graded one) [] (take i steps) (get_or steps i step) ∙ ap (spaced_steps graded) (sym (take_more steps i step within))

-- lines of a list, one member more
pub lines_more : {A : Type 0} (lines : A → List (List ℕ)) (xs : List A) (i : ℕ) (x : A) → i < length xs
    → ended (flat_map lines (take i xs)) ++ ended (lines (get_or xs i x)) ≡ ended (flat_map lines (take (i + 1) xs))
lines_more lines xs i x within =
    let last = get_or xs i x in
    sym (ended-append (flat_map lines (take i xs)) (lines last))
    ∙ ap ended (flat_map_more lines [] (take i xs) last ∙ ap (flat_map lines) (sym (take_more xs i x within)))

-- the first line of a node, piece by piece
pub node_whole : (parent branch : ℕ) (marked : List ℕ) → codes "node" ++ ((32 ∷ decimal parent) ++ ((32 ∷ decimal branch) ++ (codes " " ++ (marked ++ 10 ∷ []))))
    ≡ (codes "node " ++ (decimal parent ++ 32 ∷ (decimal branch ++ 32 ∷ marked))) ++ 10 ∷ []
node_whole parent branch marked =
    ap (λ rest. codes "node " ++ rest) (ap (λ rest. decimal parent ++ 32 ∷ rest) (sym (append_assoc (decimal branch) (32 ∷ marked) (10 ∷ [])))
    ∙ sym (append_assoc (decimal parent) (32 ∷ (decimal branch ++ 32 ∷ marked)) (10 ∷ [])))
