-- Numbers as words, both ways.
use Rattle.std.proofs.Common.{◌≡◌, ℕ, ◌<◌, ◌≤◌, ◌^◌, true, ◌&&◌, ◌||◌, not, ◌==◌, nat_le, List, length}
use Rattle.std.proofs.Common.{get_or, Some, Ok, subst, refl, sym, ap, ◌∙◌, arith, inl, inr}
use Rattle.std.specs.Fmt.{decimal}
use Rattle.std.specs.Str.Parse.{digits_value}
use Rattle.std.proofs.lemmas.Bool.{cases_lt, and_parts, le-leb, leb-true}
use Rattle.std.proofs.lemmas.Bool.Decides.{nat_tests}
use Rattle.std.proofs.lemmas.Fmt.{decimal_is_IsNumeral, decimal_digit, first_decimal, decimal-digits_value}
use Rattle.step_text.specs.declared.faults.StepFault.TheVariants.{BadStep}
use Rattle.step_text.specs.Words.{is_decimal, number_of}
use Rattle.step_text.specs.Steps.{job_of}
use Rattle.cell_base.specs.Faults.{or_fault}
use Rattle.step_text.proofs.Chains.{or_fault_ok, if_some}
use Rattle.step_text.proofs.Numbers.{own, digits_listed, decimal_parts}

-- ---- the digits of a number are read as it

plain_zero : (n : ℕ) → n ≡ 0 → ((length (decimal n) == 1) || not (get_or (decimal n) 0 0 == 48)) ≡ true
plain_zero n zero = rw (zero, decimal_digit 0 (omega arith)) refl

plain_more : (n : ℕ) → 0 < n → n < 2 ^ 64 → ((length (decimal n) == 1) || not (get_or (decimal n) 0 0 == 48)) ≡ true
plain_more n more small = let above = first_decimal n more small in grind (arith, nat_tests)

plain : (n : ℕ) → n < 2 ^ 64 → ((length (decimal n) == 1) || not (get_or (decimal n) 0 0 == 48)) ≡ true
plain n small = elim (cases_lt 0 n) [ inl more ↦ plain_more n more small | inr le ↦ plain_zero n (omega (arith, le)) ]

is_decimal_again : (n : ℕ) → n < 2 ^ 64 → is_decimal (decimal n) ≡ true
is_decimal_again n small =
    let numeral = decimal_is_IsNumeral n small in
    let digits = sym (digits_listed (decimal n)) ∙ own.from (decimal n) numeral.0.1 in
    rw (le-leb 1 (length (decimal n)) (omega (arith, numeral.0.0)), digits, plain n small) refl

pub number_again : (low high n : ℕ) → low ≤ n → n ≤ high → n < 2 ^ 64 → number_of low high (decimal n) ≡ Some n
unfolding number_of
number_again low high n from to small =
    rw (is_decimal_again n small, (decimal_is_IsNumeral n small).1, le-leb low n from, le-leb n high to) refl

pub job_again : (n : ℕ) → n < 2 ^ 32 → job_of (decimal n) ≡ Ok n
unfolding job_of
job_again n small = ap (λ o. or_fault o BadStep) (number_again 0 4294967295 n (omega arith) (omega (arith, small)) (omega (arith, small)))

-- ---- a word that is read as a number is its digits

pub record IsNumber (low high n : ℕ) (word : List ℕ) : Type 0 where
  pub from : low ≤ n
  pub to : n ≤ high
  pub text : decimal n ≡ word

leading : (word : List ℕ) → ((length word == 1) || not (get_or word 0 0 == 48)) ≡ true → get_or word 0 0 ≡ 48 → length word ≡ 1
leading word plain zero = grind (arith, nat_tests)

decimal_back : (word : List ℕ) → is_decimal word ≡ true → digits_value 10 word < 2 ^ 64 → decimal (digits_value 10 word) ≡ word
decimal_back word is small =
    let parts = decimal_parts word is in
    decimal-digits_value own word parts.digits parts.some (leading word parts.plain) small

pub number_back : (low high n : ℕ) (word : List ℕ) → high < 2 ^ 64 → number_of low high word ≡ Some n → IsNumber low high n word
unfolding number_of
number_back low high n word small e =
    let v : ℕ = digits_value 10 word in
    let given = if_some (is_decimal word && nat_le low v && nat_le v high) v n e in
    let all = and_parts (is_decimal word && nat_le low v) (nat_le v high) given.0 in
    let front = and_parts (is_decimal word) (nat_le low v) all.0 in
    let low_is = leb-true low v front.1 in
    let high_is = leb-true v high all.1 in
    subst (λ m. IsNumber low high m word) given.1
    (record { from = low_is; to = high_is; text = decimal_back word front.0 (omega (arith, high_is, small)) })

pub job_small : (n : ℕ) (word : List ℕ) → job_of word ≡ Ok n → n < 2 ^ 32
unfolding job_of
job_small n word e =
    omega (arith, (number_back 0 4294967295 n word (omega arith) (or_fault_ok (number_of 0 4294967295 word) BadStep n e)).to)

pub job_back : (n : ℕ) (word : List ℕ) → job_of word ≡ Ok n → decimal n ≡ word
unfolding job_of
job_back n word e = (number_back 0 4294967295 n word (omega arith) (or_fault_ok (number_of 0 4294967295 word) BadStep n e)).text
