use Rattle.asg_tokens.proofs.Common.{◌≡◌, ℕ, ltb, length, take, replicate, sym, ◌∙◌, arith, length-take, w8, bitmask_splat, length-zip2, zip2, length-replicate}
use Rattle.asg_tokens.proofs.BlockLemmas.{less, other_bits}
use Rattle.asg_tokens.proofs.cell_blocks.other_bytes.Goals as goal

pub returns : goal.returns
returns c =
    let text = c.args.text.now in
    let front = take 64 text in
    let count : length front ≡ 64 = omega (arith, length-take 64 text, c.requires) in
    other_bits text c.requires c.type_inv.text _
    (bitmask_splat w8 ltb (zip2 less front (replicate 64 48)) 64 10 (length-zip2 less front (replicate 64 48) (count ∙ sym (length-replicate {A = ℕ} 64 48)) ∙ count) (omega arith))
