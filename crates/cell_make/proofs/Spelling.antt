-- A letter and a number are a name, and no two of them with one letter are the same.
use Rattle.std.proofs.Common.{◌≡◌, ◌≢◌, ℕ, ◌+◌, ◌-◌, ◌<◌, ◌≤◌, true, List, [], ◌∷◌, length, get_or, arith, Option}
use Rattle.std.proofs.Common.{Some, sym, subst, ap, ◌∙◌, refl, inl, inr}
use Rattle.std.specs.Prelude.{IsTrue}
use Rattle.std.specs.List.{All}
use Rattle.std.specs.Option.{SomeIff}
use Rattle.std.proofs.lemmas.Bool.{cases_lt, lt-ltb, le-ltb}
use Rattle.std.proofs.lemmas.Bool.Decides.{nat_tests}
use Rattle.std.proofs.lemmas.List.Elements.{All-nil, All-cons}
use Rattle.cell_base.specs.Names.{is_name_byte, IsName}
use Rattle.cell_make.specs.Names.{numbered_name}

pub name_below_ten : (letter n : ℕ) → n < 10 → numbered_name letter n ≡ letter ∷ (48 + n) ∷ []
unfolding numbered_name
name_below_ten letter n below = rw (lt-ltb n 10 below) refl

pub name_from_ten : (letter n : ℕ) → 10 ≤ n → numbered_name letter n ≡ letter ∷ 49 ∷ (48 + (n - 10)) ∷ []
unfolding numbered_name
name_from_ten letter n from = rw (le-ltb n 10 from) refl

pub read_value : (r : Option (List ℕ)) (P : Type 0) (bytes name : List ℕ) → SomeIff r P bytes → r ≡ Some name → name ≡ bytes
read_value r P bytes name read is = (subst (λ o. SomeIff o P bytes) is read).1

digit : (d : ℕ) → 48 ≤ d → d ≤ 57 → is_name_byte d ≡ true
digit d low high = grind (arith, nat_tests)

-- the byte may stand in a name
spelled : ℕ → Type 0
spelled b = IsTrue (is_name_byte b)

last : (d : ℕ) → 48 ≤ d → d ≤ 57 → All spelled (d ∷ [])
unfolding spelled
last d low high = All-cons spelled d [] (digit d low high) (All-nil spelled)

pub is_name : (letter n : ℕ) → is_name_byte letter ≡ true → n < 20 → IsName (numbered_name letter n)
unfolding spelled
is_name letter n is below =
    elim (cases_lt n 10) [
      | inl low ↦ subst IsName (sym (name_below_ten letter n low)) (record {
        some = omega arith;
        short = omega arith;
        spelled = All-cons spelled letter ((48 + n) ∷ []) is (last (48 + n) (omega arith) (omega arith));
      })
      | inr high ↦
          let d = 48 + (n - 10) in
          subst IsName (sym (name_from_ten letter n high)) (record {
            some = omega arith;
            short = omega arith;
            spelled = All-cons spelled letter (49 ∷ d ∷ []) is
                (All-cons spelled 49 (d ∷ []) (digit 49 (omega arith) (omega arith)) (last d (omega arith) (omega arith)));
          })
    ]

pub different : (letter q r : ℕ) → q < r → numbered_name letter q ≢ numbered_name letter r
different letter q r less same =
    elim (cases_lt r 10) [
      | inl low ↦
          let e = sym (name_below_ten letter q (omega arith)) ∙ same ∙ name_below_ten letter r low in
          absurd (omega (arith, ap (λ (name : List ℕ). get_or name 1 0) e))
      | inr high ↦ elim (cases_lt q 10) [
        | inl low ↦
            let e = sym (name_below_ten letter q low) ∙ same ∙ name_from_ten letter r high in
            absurd (omega (arith, ap (λ (name : List ℕ). length name) e))
        | inr from ↦
            let e = sym (name_from_ten letter q from) ∙ same ∙ name_from_ten letter r high in
            absurd (omega (arith, ap (λ (name : List ℕ). get_or name 2 0) e))
      ]
    ]
