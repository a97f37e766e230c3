-- The first piece of a file has its head.
use Rattle.std.specs.Prelude.{Option, Some}
use Rattle.std.proofs.Common.{◌≡◌, ◌⊎◌, inl, inr, ◌≤◌, ◌++◌, ◌∙◌, ℕ, List, [], length, drop, ap, arith}
use Rattle.std.proofs.lemmas.List.{drop_all}
use Rattle.std.proofs.lemmas.Bool.{cases_lt}
use Rattle.outside_io.specs.Telling.{told}
use Rattle.journal_format.specs.declared.head.Head.{Head}
use Rattle.journal_format.specs.declared.head.TheConstants.{TEXT_AT}
use Rattle.journal_format.specs.Readings.{head_of}
use Rattle.journal_format.proofs.HeadReading.{head_longer}
use Rattle.shift_recovery.specs.Windows.{IsFirstPiece}

module _ (o : Option (List ℕ)) (len : ℕ) (bytes file : List ℕ) (piece : IsFirstPiece o len bytes) (is : o ≡ Some file) where
  pub file_of_piece : (length file ≡ len) × (file ≡ bytes ++ drop (length bytes) file)
  file_of_piece = told o (λ f. (length f ≡ len) × (f ≡ bytes ++ drop (length bytes) f)) file is piece.shows

  pub head_of_file : (head : Head) → head_of len bytes ≡ head → head_of (length file) file ≡ head
  head_of_file head head_is =
      let rest : List ℕ = drop (length bytes) file in
      let side : (TEXT_AT ≤ length bytes) ⊎ (rest ≡ []) = elim (cases_lt len TEXT_AT) [
        | inl below ↦ inr (drop_all (length bytes) file (omega (arith, piece.size, file_of_piece.0, below)))
        | inr above ↦ inl (omega (arith, piece.size, above))
      ] in
      ap (λ (k : ℕ). head_of k file) file_of_piece.0 ∙ ap (head_of len) file_of_piece.1 ∙ head_longer len bytes rest side ∙ head_is
