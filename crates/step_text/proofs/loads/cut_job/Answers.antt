-- Each byte adds its digit to the value of those before it, which are ten at most.
use Rattle.std.proofs.Common.{◌≡◌, ◌<◌, ◌≤◌, ◌^◌, ℕ, List, true, length, take, ◌∙◌, arith}
use Rattle.std.specs.Char.{is_ascii_digit}
use Rattle.std.specs.List.{list_all}
use Rattle.std.specs.Str.Parse.{digits_value}
use Rattle.std.proofs.lemmas.Bool.{and_from}
use Rattle.std.proofs.lemmas.Int.Digits.{digits_value_more}
use Rattle.std.proofs.lemmas.List.{length-take-le}
use Rattle.std.proofs.lemmas.List.Folds.{list_all_more}
use Rattle.step_text.proofs.Numbers.{few_digits}
use Rattle.step_text.proofs.loads.cut_job.Goals as goal

-- the value of so few digits
small : (text : List ℕ) (i value : ℕ) → i < length text → i ≤ 10 → list_all is_ascii_digit (take i text) ≡ true
    → value ≡ digits_value 10 (take i text) → value < 10 ^ 10
small text i value within few digits is =
    omega (arith, few_digits (take i text) 10 digits (omega (arith, length-take-le i text (omega arith), few)), is)

pub overflow_mul-value : goal.overflow_mul-value
overflow_mul-value c =
    let loop = c.loop-at.invariant in
    let test = c.loop-at-test.true in
    omega (
      arith,
      small c.args.text.now c.loop-at.at c.loop-at.value (omega (arith, test, c.min-at-end.ensures))
          (omega (arith, test, c.min-at-end.ensures)) loop.0 loop.1,
    )

pub overflow_add-value : goal.overflow_add-value
overflow_add-value c =
    let loop = c.loop-at.invariant in
    let test = c.loop-at-test.true in
    omega (
      arith,
      small c.args.text.now c.loop-at.at c.loop-at.value (omega (arith, test, c.min-at-end.ensures))
          (omega (arith, test, c.min-at-end.ensures)) loop.0 loop.1,
      c.in_ok-value.ensures.small,
    )

pub loop-at-preserved : goal.loop-at-preserved
loop-at-preserved c =
    let text = c.args.text.now in
    let at = c.loop-at.at in
    let within : at < length text = omega (arith, c.loop-at-test.true, c.min-at-end.ensures) in
    let digit = c.in_ok-value.ensures.value in (
      list_all_more is_ascii_digit text at 0 within ∙ and_from _ _ c.loop-at.invariant.0 digit.0,
      omega (arith, digits_value_more 10 text at within, c.loop-at.invariant.1, digit.1),
    )
