-- A line of a record, and the same line with another reply.
use Rattle.std.proofs.Common.{◌≡◌, ℕ, ◌-◌, List, [], ◌∷◌, ◌++◌, length, take, sym, ◌∙◌, ap, arith}
use Rattle.std.proofs.lemmas.List.{append_assoc, length-append}
use Rattle.std.proofs.Math.Seq.{take-append_seam}
use Rattle.step_text.specs.Words.{joined}
use Rattle.record_text.specs.Lines.{line_of}
use Rattle.record_text.proofs.Appending.{line_parted}

module _ (word : List ℕ) (words : List (List ℕ)) where
  -- the first words, and a space
  abbrev asked : List ℕ
  asked = joined (word ∷ words) ++ 32 ∷ []

  -- a line is its first words, a space, and the line of the others
  line_asked : (next : List ℕ) (more : List (List ℕ)) → line_of (word ∷ (words ++ next ∷ more)) ≡ asked ++ line_of (next ∷ more)
  line_asked next more =
      line_parted word words next more ∙ sym (append_assoc (joined (word ∷ words)) (32 ∷ []) (line_of (next ∷ more)))

  -- the line without a reply, and then another one
  pub another_reply : (first : List ℕ) (more : List (List ℕ)) (next : List ℕ) (others : List (List ℕ)) (line reply other : List ℕ) (n : ℕ)
      → line ≡ line_of (word ∷ (words ++ first ∷ more)) → reply ≡ line_of (first ∷ more) → other ≡ line_of (next ∷ others)
      → n ≡ length line - length reply → take n line ++ other ≡ line_of (word ∷ (words ++ next ∷ others))
  another_reply first more next others line reply other n is replied replies at =
      let parted : line ≡ asked ++ reply = is ∙ line_asked first more ∙ ap (λ bytes. asked ++ bytes) (sym replied) in
      let same : n ≡ length asked = omega (arith, at, ap length parted, length-append asked reply) in
      ap (λ bytes. bytes ++ other) (ap (λ k. take k line) same ∙ ap (take (length asked)) parted ∙ take-append_seam asked reply)
      ∙ ap (λ bytes. asked ++ bytes) replies ∙ sym (line_asked next others)
