-- Lines that are made of a first word, a second one and words after them.
use Rattle.std.proofs.Common.{◌≡◌, ℕ, List, [], ◌∷◌, ◌++◌, sym, ap, ◌∙◌}
use Rattle.record_text.proofs.Appending.{joined-append}
use Rattle.record_text.specs.Lines.{line_of}
use Rattle.record_text.specs.Spaced.{spaced}
use Rattle.step_text.specs.Words.{joined}

pub line_made : (file word : List ℕ) (words : List (List ℕ)) (one two three four : List ℕ) → one ≡ file → two ≡ one ++ 32 ∷ word
    → three ≡ two ++ spaced words → four ≡ three ++ 10 ∷ [] → four ≡ line_of (file ∷ word ∷ words)
line_made file word words one two three four a b c d =
    let made : four ≡ (joined (file ∷ word ∷ []) ++ spaced words) ++ 10 ∷ [] = cc in
    made ∙ ap (λ (xs : List ℕ). xs ++ 10 ∷ []) (sym (joined-append file (word ∷ []) words))
