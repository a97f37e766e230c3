-- A text that begins with digits and a space.
use Rattle.std.proofs.Common.{◌≡◌, ℕ, ◌<◌, ◌^◌, true, false, ◌&&◌, ◌||◌, not, ◌==◌, nat_le, List, ◌∷◌, ◌++◌, length, get_or}
use Rattle.std.proofs.Common.{Ok, refl, arith}
use Rattle.std.specs.Char.{is_ascii_digit}
use Rattle.std.specs.List.{list_all}
use Rattle.std.specs.Str.Parse.{digits_value}
use Rattle.std.proofs.lemmas.Bool.{and_parts, le-leb}
use Rattle.std.proofs.lemmas.Bool.Decides.{nat_tests}
use Rattle.std.proofs.lemmas.List.Splits.{slice_split_at}
use Rattle.std.proofs.lemmas.List.Sums.{AllPass-from_list_all}
use Rattle.step_text.specs.Words.{is_space, number_of}
use Rattle.step_text.specs.Steps.{BeginsWithJob, job_of}
use Rattle.step_text.proofs.Joined.{IsWord}

digit_no_space : (b : ℕ) → is_ascii_digit b ≡ true → is_space b ≡ false
digit_no_space b is = grind (arith, nat_tests)

-- digits are a word
digits_word : (word : List ℕ) → list_all is_ascii_digit word ≡ true → IsWord word
digits_word word digits = λ k d within. digit_no_space (get_or word k d) (AllPass-from_list_all is_ascii_digit word digits k d within)

-- a word of digits without a leading zero is the job of their value
job_of_digits : (word : List ℕ) → list_all is_ascii_digit word ≡ true
    → (nat_le 1 (length word) && ((length word == 1) || not (get_or word 0 0 == 48))) ≡ true
    → digits_value 10 word < 2 ^ 32 → job_of word ≡ Ok (digits_value 10 word)
unfolding job_of number_of
job_of_digits word digits plain small =
    let parts = and_parts (nat_le 1 (length word)) ((length word == 1) || not (get_or word 0 0 == 48)) plain in
    rw (
      parts.0,
      digits,
      parts.1,
      le-leb 0 (digits_value 10 word) (omega arith),
      le-leb (digits_value 10 word) 4294967295 (omega (arith, small)),
    ) refl

-- the digits before the first space, and what stands after it
pub begins_with : (word rest : List ℕ) → list_all is_ascii_digit word ≡ true
    → (nat_le 1 (length word) && ((length word == 1) || not (get_or word 0 0 == 48))) ≡ true
    → digits_value 10 word < 2 ^ 32 → BeginsWithJob (word ++ 32 ∷ rest) (digits_value 10 word) rest
begins_with word rest digits plain small =
    (word, slice_split_at is_space word 32 rest (digits_word word digits) refl, job_of_digits word digits plain small)
