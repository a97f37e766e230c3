-- What the words promise.
use Rattle.std.specs.Prelude.{IfSome}
use Rattle.std.proofs.Common.{◌≡◌, ◌∙◌, ℕ, List, [], ◌∷◌, refl, subst, sym}
use Rattle.outside_io.specs.Puts.{SinkTold}
use Rattle.cell_walks.specs.DiskTold.{IsUntouched}
use Rattle.cell_walks.specs.Observed.{Observed}
use Rattle.cell_walks.specs.Outcomes.{IsDelivered, printed}
use Rattle.cell_walks.specs.Promises.{Ends, Promises}
use Rattle.cell_walks.specs.declared.status.Status.{Status}
use Rattle.cell_walks.specs.declared.status.Status.TheVariants.{NoCommand}
use Rattle.cell_walks.proofs.Promising.{promises}
use Rattle.solo_command.specs.Solo.{solo}
use Rattle.solo_program.specs.Words.{no_command, solo_words, usage_text}

module _ (seen : Observed) (sink : SinkTold) (status : Status) (now : IfSome seen.disk.reads seen.disk.leaves) where
  -- words that are written so were played, and are written so in no other way
  pub command_promises : (words : List (List ℕ)) (a b : List ℕ) → solo_words a b ≡ words → Ends seen sink (solo a b) status
      → (cell shift : List ℕ) → solo_words cell shift ≡ words → Promises seen sink (solo cell shift) status
  command_promises words a b written ends cell shift so =
      let both : solo_words a b ≡ solo_words cell shift = written ∙ sym so in
      let one : a ≡ cell = cc in
      let two : b ≡ shift = cc in
      subst (λ (c : List ℕ). Promises seen sink (solo c shift) status) one
      (subst (λ (s : List ℕ). Promises seen sink (solo a s) status) two (promises seen sink (solo a b) status ends now))

  -- for others it was printed how they are written
  pub none_promises : IsUntouched seen.disk → IsDelivered sink (printed NoCommand (usage_text ∷ [])) status
      → Promises seen sink no_command status
  none_promises still delivered =
      promises seen sink no_command status
      (record { outcome = printed NoCommand (usage_text ∷ []); allowed = (refl, still); delivered = delivered }) now
