-- Words ask for a shift on a cell exactly where they are written so.
use Rattle.std.specs.Prelude.{IfSome, IfNone, if◌then◌else◌}
use Rattle.std.specs.Option.{option_map}
use Rattle.std.specs.Str.{bytes_eq}
use Rattle.std.proofs.Common.{◌≡◌, ℕ, List, [], ◌∷◌, Bool, true, false, Option, Some, None, codes, refl, sym, ap, ◌∙◌}
use Rattle.std.proofs.lemmas.Slice.Eq.{bytes_eq-Decides}
use Rattle.solo_program.specs.Words.{solo_words}
use Rattle.solo_program.specs.Deciding.{asked_of, asked_words}
use Rattle.solo_program.specs.declared.asked.Asked.{Asked}

decides : (cell shift : List ℕ) → asked_of (solo_words cell shift) ≡ Some (solo_words cell shift)
decides cell shift = refl

decided_two : (verb a b : List ℕ) (test : Bool) → bytes_eq verb (codes "solo") ≡ test → (so : List (List ℕ))
    → Some so ≡ (if test then Some (solo_words a b) else None) → so ≡ verb ∷ a ∷ b ∷ []
decided_two verb a b true same so is =
    let one : so ≡ solo_words a b = cc in
    one ∙ ap (λ (w : List ℕ). w ∷ a ∷ b ∷ []) (sym ((bytes_eq-Decides verb (codes "solo")).0 same))
decided_two verb a b false same so is = absurd (cc)

decided : (words so : List (List ℕ)) → Some so ≡ asked_of words → so ≡ words
decided [] so is = absurd (cc)
decided (verb ∷ []) so is = absurd (cc)
decided (verb ∷ a ∷ []) so is = absurd (cc)
decided (verb ∷ a ∷ b ∷ []) so is = decided_two verb a b (bytes_eq verb (codes "solo")) refl so is
decided (verb ∷ a ∷ b ∷ c ∷ rest) so is = absurd (cc)

pub written : (result : Option Asked) (words : List (List ℕ)) → option_map asked_words result ≡ asked_of words
    → IfSome result (λ asked. asked_words asked ≡ words)
written None words is = tt
written (Some asked) words is = decided words (asked_words asked) is

pub unwritten : (result : Option Asked) (words : List (List ℕ)) → option_map asked_words result ≡ asked_of words
    → IfNone result ((cell shift : List ℕ) → solo_words cell shift ≡ words → ⊥)
unwritten None words is = λ cell shift so. let both = is ∙ ap asked_of (sym so) ∙ decides cell shift in absurd (cc)
unwritten (Some asked) words is = tt
