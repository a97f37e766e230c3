-- Lines are read in the same way after other blocks.
use Rattle.std.proofs.Common.{◌≡◌, ℕ, ◌+◌, Bool, true, false, cond, ◌==◌, List, [], ◌∷◌, ◌++◌, append_assoc, Option, Some, None}
use Rattle.std.proofs.Common.{refl, sym, ap, ◌∙◌}
use Rattle.std.specs.Option.{option_map, option_map_or}
use Rattle.cell_base.specs.declared.cells.Cell.{Cell}
use Rattle.cell_base.specs.Histories.{was_halted}
use Rattle.step_text.specs.Words.{words}
use Rattle.record_text.specs.declared.blocks.Block.{Block}
use Rattle.record_text.specs.declared.stages.Stage.{Stage}
use Rattle.record_text.specs.declared.stages.Stage.TheVariants.{Between, Entries, Left, Steps}
use Rattle.record_text.specs.Progress.{Reading, on_head, on_entry, on_entries, on_left, on_steps, on_line}
use Rattle.record_text.specs.Reading.{Words, ◌>>=◌, entry_at, head_at, left_at, plan_at, step_at}
use Rattle.record_text.proofs.Running.{lines_read, run_cons, run_nothing}

module _ (given : List Block) where
  -- the same with these blocks before
  abbrev pub onto : Reading → Reading
  onto r = (given ++ r.0, r.1)

  onto_bind : {A : Type 0} (o : Option A) (f g : A → Option Reading) → ((x : A) → f x ≡ option_map onto (g x))
      → (o >>= f) ≡ option_map onto (o >>= g)
  onto_bind None f g same = refl
  onto_bind (Some x) f g same = same x

  onto_either : {A : Type 0} (o : Option A) (f g : A → Option Reading) (d e : Option Reading)
      → ((x : A) → f x ≡ option_map onto (g x)) → d ≡ option_map onto e
      → option_map_or f o d ≡ option_map onto (option_map_or g o e)
  onto_either None f g d e same other = other
  onto_either (Some x) f g d e same other = same x

  onto_cond : (b : Bool) (r s t u : Reading) → r ≡ onto t → s ≡ onto u → cond b r s ≡ onto (cond b t u)
  onto_cond true r s t u one other = one
  onto_cond false r s t u one other = other

  module _ (cell : Cell) where
    closes : (blocks : List Block) (block : Block) → ((given ++ blocks) ++ block ∷ [], Between) ≡ onto (blocks ++ block ∷ [], Between)
    closes blocks block = ap (λ (bs : List Block). (bs, Between)) (append_assoc given blocks (block ∷ []))

    pub on_line_onto : (n : ℕ) (blocks : List Block) (stage : Stage) (ws : Words)
        → on_line cell n (given ++ blocks) stage ws ≡ option_map onto (on_line cell n blocks stage ws)
    unfolding on_line on_head on_entries on_entry on_left on_steps
    on_line_onto n blocks Between ws = onto_bind (head_at ws) _ _ (λ head. refl)
    on_line_onto n blocks (Entries head entries) ws =
        onto_either (entry_at cell ws) _ _ _ _
        (λ entry. ap Some (onto_cond (was_halted entry.told) _ _ _ _ (closes blocks _) refl))
        (onto_bind (left_at ws) _ _ (λ left. refl))
    on_line_onto n blocks (Left head entries left) ws =
        onto_bind (plan_at ws) _ _ (λ missing. ap Some (onto_cond (missing == 0) _ _ _ _ (closes blocks _) refl))
    on_line_onto n blocks (Steps head entries left missing steps) ws =
        onto_bind (step_at cell ws) _ _ (λ step. ap Some (onto_cond (missing == 1) _ _ _ _ (closes blocks _) refl))

    pub run_onto : (n : ℕ) (blocks : List Block) (stage : Stage) (lines : List (List ℕ))
        → lines_read cell n (given ++ blocks) stage lines ≡ option_map onto (lines_read cell n blocks stage lines)
    run_onto n blocks stage [] =
        run_nothing cell n (given ++ blocks) stage ∙ ap (option_map onto) (sym (run_nothing cell n blocks stage))
    run_onto n blocks stage (line ∷ lines) =
        run_cons cell n (given ++ blocks) stage line lines
        ∙ ap (λ o. o >>= λ (r : Reading). lines_read cell (n + 1) r.0 r.1 lines) (on_line_onto n blocks stage (words line))
        ∙ by (on_line cell n blocks stage (words line)) (λ r. run_onto (n + 1) r.0 r.1 lines)
        ∙ ap (option_map onto) (sym (run_cons cell n blocks stage line lines)) where
          by : (o : Option Reading)
              → ((r : Reading) → lines_read cell (n + 1) (given ++ r.0) r.1 lines ≡ option_map onto (lines_read cell (n + 1) r.0 r.1 lines))
              → (option_map onto o >>= λ (r : Reading). lines_read cell (n + 1) r.0 r.1 lines)
              ≡ option_map onto (o >>= λ (r : Reading). lines_read cell (n + 1) r.0 r.1 lines)
          by None later = refl
          by (Some r) later = later r
