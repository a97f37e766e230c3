-- Each byte adds its digit to the value of those before it, which are fewer than nineteen.
use Rattle.std.proofs.Common.{◌≡◌, ◌<◌, ◌≤◌, ◌^◌, ℕ, List, true, length, take, ◌∙◌, arith}
use Rattle.std.specs.Char.{is_ascii_digit}
use Rattle.std.specs.List.{list_all}
use Rattle.std.specs.Str.Parse.{digits_value}
use Rattle.std.proofs.lemmas.Bool.{and_from}
use Rattle.std.proofs.lemmas.Int.Digits.{digits_value_more}
use Rattle.std.proofs.lemmas.List.{length-take-le}
use Rattle.std.proofs.lemmas.List.Folds.{list_all_more}
use Rattle.step_text.proofs.Numbers.{few_digits}
use Rattle.step_text.proofs.words.short_value.Goals as goal

-- the value of fewer than nineteen digits
small : (word : List ℕ) (i value : ℕ) → i < length word → length word ≤ 19 → list_all is_ascii_digit (take i word) ≡ true
    → value ≡ digits_value 10 (take i word) → value < 10 ^ 18
small word i value within short digits is =
    omega (arith, few_digits (take i word) 18 digits (omega (arith, length-take-le i word (omega arith))), is)

pub overflow_mul-value : goal.overflow_mul-value
overflow_mul-value c =
    let loop = c.loop-byte.invariant in
    omega (arith, small c.args.word.now c.loop-byte.byte-index c.loop-byte.value c.loop-byte-test.true c.requires loop.0 loop.1)

pub overflow_add-value : goal.overflow_add-value
overflow_add-value c =
    let loop = c.loop-byte.invariant in
    omega (
      arith,
      small c.args.word.now c.loop-byte.byte-index c.loop-byte.value c.loop-byte-test.true c.requires loop.0 loop.1,
      c.in-Some.ensures.small,
    )

pub loop-byte-preserved : goal.loop-byte-preserved
loop-byte-preserved c =
    let word = c.args.word.now in
    let i = c.loop-byte.byte-index in
    let digit = c.in-Some.ensures.value in (
      list_all_more is_ascii_digit word i 0 c.loop-byte-test.true ∙ and_from _ _ c.loop-byte.invariant.0 digit.0,
      omega (arith, digits_value_more 10 word i c.loop-byte-test.true, c.loop-byte.invariant.1, digit.1),
    )
