-- One draw more, and two.
use Rattle.std.proofs.Common.{◌≡◌, ℕ, suc, ◌+◌, ◌*◌, ◌%◌, ◌^◌, ap, refl, ◌∙◌, arith}
use Rattle.cell_make.specs.Draws.{next_number, number_after}

pub after-none : (x : ℕ) → number_after x 0 ≡ x
unfolding number_after
after-none x = refl

pub after-more : (x n : ℕ) → number_after x (n + 1) ≡ next_number (number_after x n)
unfolding number_after
after-more x n = let one : n + 1 ≡ suc n = omega arith in ap (number_after x) one

-- the number after two draws more than m, by any spelling of that number of draws
pub after-two_more : (x m n : ℕ) → n ≡ m + 1 + 1 → number_after x n ≡ next_number (next_number (number_after x m))
after-two_more x m n is = ap (number_after x) is ∙ after-more x (m + 1) ∙ ap next_number (after-more x m)

pub wrapped : (x : ℕ) → (x * 6364136223846793005 % 2 ^ 64 + 1442695040888963407) % 2 ^ 64 ≡ next_number x
unfolding next_number
wrapped x = omega arith
