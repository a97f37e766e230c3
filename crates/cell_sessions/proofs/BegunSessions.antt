-- Sessions that begin one after the other.
use Rattle.std.proofs.Common.{◌≡◌, inl, inr, ℕ, ◌+◌, ◌<◌, List, [], ◌∷◌, ◌++◌, length, Some, slice_get, get_or}
use Rattle.std.proofs.Common.{refl, ap, ◌∙◌, sym, arith}
use Rattle.std.proofs.lemmas.Bool.{cases_lt}
use Rattle.std.proofs.Math.ListN.{get_or-append}
use Rattle.std.proofs.Math.Seq.{get_or-append_seam}
use Rattle.std.proofs.lemmas.List.{length_push}
use Rattle.std.proofs.lemmas.Option.{get_or_from_slice_get, slice_get-get_or, slice_get_within}
use Rattle.cell_base.specs.declared.requests.Request.{Request}
use Rattle.cell_base.specs.declared.shifts.Grant.{Grant}
use Rattle.cell_base.specs.declared.shifts.Shift.{Shift}
use Rattle.cell_base.specs.Scripts.{first_step, script_of}
use Rattle.cell_base.specs.Scripts.{Progress as Place}
use Rattle.cell_sessions.specs.declared.progress.Progress.{Progress}
use Rattle.cell_sessions.specs.Progressing.{start_at}
use Rattle.cell_sessions.specs.Starting.{AreBegun, IsReached}
use Rattle.solo_rounds.proofs.Counting.{script_at}

module _ (shift : Shift) (grants : List Grant) where
  -- the first n sessions have begun
  pub record HaveBegun (n : ℕ) (progress : List Progress) : Type 0 where
    pub count : length progress ≡ n
    pub each : (k : ℕ) (at : Progress) → slice_get progress k ≡ Some at
        → at ≡ start_at (script_of shift (k + 1)) (first_step shift (k + 1) grants)

  pub none_begun : HaveBegun 0 []
  none_begun = record { count = refl; each = λ k at is. absurd (omega (arith, slice_get_within [] k at is)) }

  pub all_begun : (progress : List Progress) → HaveBegun (length shift.scripts) progress → AreBegun shift grants progress
  all_begun progress begun = record { count = begun.count; each = begun.each }

  module _ (reached : List Place) (are : IsReached shift grants reached) (k : ℕ) (script : List Request)
      (is : slice_get shift.scripts k ≡ Some script) (d : Place) (inside : k < length reached) where
    script_is : script_of shift (k + 1) ≡ script
    script_is = script_at shift k script is

    step_is : (get_or reached k d).step ≡ first_step shift (k + 1) grants
    step_is = ap (λ (at : Place). at.step) (are.stand k (get_or reached k d) (slice_get-get_or reached k d inside))

    -- one session more
    pub one_more : (progress : List Progress) (next : Progress) → next ≡ start_at script (get_or reached k d).step → HaveBegun k progress
        → HaveBegun (k + 1) (progress ++ next ∷ [])
    one_more progress next starts begun = record {
      count = length_push progress next ∙ ap (λ (n : ℕ). n + 1) begun.count;
      each = λ j at there. elim (cases_lt j k) [
        | inl before ↦ begun.each j at (early j at there (omega (arith, before, begun.count)))
        | inr late ↦ last j at there (omega (
          arith,
          late,
          slice_get_within (progress ++ next ∷ []) j at there,
          length_push progress next,
          begun.count,
        ))
      ];
    }
      where
        early : (j : ℕ) (at : Progress) → slice_get (progress ++ next ∷ []) j ≡ Some at → j < length progress
            → slice_get progress j ≡ Some at
        early j at there before =
            slice_get-get_or progress j at before
            ∙ ap Some (sym (get_or-append progress (next ∷ []) at j before)
            ∙ get_or_from_slice_get (progress ++ next ∷ []) j at at there)

        here : (j : ℕ) (at : Progress) → slice_get (progress ++ next ∷ []) j ≡ Some at → j ≡ k → at ≡ next
        here j at there same =
            sym (get_or_from_slice_get (progress ++ next ∷ []) j at at there)
            ∙ ap (λ (i : ℕ). get_or (progress ++ next ∷ []) i at) (same ∙ sym begun.count)
            ∙ get_or-append_seam progress next [] at

        last : (j : ℕ) (at : Progress) → slice_get (progress ++ next ∷ []) j ≡ Some at → j ≡ k
            → at ≡ start_at (script_of shift (j + 1)) (first_step shift (j + 1) grants)
        last j at there same =
            here j at there same
            ∙ starts
            ∙ ap (λ (s : List Request). start_at s (get_or reached k d).step) (sym script_is)
            ∙ ap (λ (step : ℕ). start_at (script_of shift (k + 1)) step) step_is
            ∙ ap (λ (i : ℕ). start_at (script_of shift (i + 1)) (first_step shift (i + 1) grants)) (sym same)
