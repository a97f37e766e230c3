-- Where the lines of blocks stand.
use Rattle.std.proofs.Common.{◌≡◌, ℕ, zero, suc, ◌+◌, ◌<◌, ◌≤◌, ◌^◌, List, [], ◌∷◌, length, take, drop, get_or, add-zero, ap, ◌∙◌, arith}
use Rattle.std.specs.List.{sum_by}
use Rattle.std.proofs.lemmas.List.{take_more, take-append-drop}
use Rattle.std.proofs.lemmas.List.Sums.{sum_by-append, sum_by-cons}
use Rattle.record_text.specs.declared.blocks.Block.{Block}
use Rattle.record_text.specs.Blocks.{line_count, AreNumbered}

numbered_at : (n : ℕ) (blocks : List Block) (i : ℕ) (d : Block) → AreNumbered n blocks → i < length blocks
    → (get_or blocks i d).first_line ≡ n + sum_by line_count (take i blocks)
numbered_at n [] i d are within = absurd (omega (arith, within))
numbered_at n (block ∷ blocks) zero d are within = omega (arith, are.0)
numbered_at n (block ∷ blocks) (suc i) d are within =
    numbered_at (n + line_count block) blocks i d are.1 (omega (arith, within))
    ∙ omega (arith, sum_by-cons line_count block (take i blocks))

module _ (blocks : List Block) (i : ℕ) (d : Block) (within : i < length blocks) (numbered : AreNumbered 1 blocks) where
  abbrev block : Block
  block = get_or blocks i d

  pub first_line_is : block.first_line ≡ 1 + sum_by line_count (take i blocks)
  first_line_is = numbered_at 1 blocks i d numbered within

  pub lines_after : sum_by line_count (take (i + 1) blocks) ≡ sum_by line_count (take i blocks) + line_count block
  lines_after =
      ap (sum_by line_count) (take_more blocks i d within)
      ∙ sum_by-append line_count (take i blocks) (block ∷ [])
      ∙ ap (λ k. sum_by line_count (take i blocks) + k) (sum_by-cons line_count block [] ∙ add-zero (line_count block))

  pub lines_fit : sum_by line_count blocks < 2 ^ 32 → block.first_line + line_count block ≤ 2 ^ 32
  lines_fit few =
      omega (
        arith,
        few,
        first_line_is,
        lines_after,
        sum_by-append line_count (take (i + 1) blocks) (drop (i + 1) blocks),
        ap (sum_by line_count) (take-append-drop (i + 1) blocks),
      )
