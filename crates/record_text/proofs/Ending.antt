-- Where the reading of a record ends, and with what.
use Rattle.std.proofs.Common.{◌≡◌, ℕ, ◌+◌, ◌≤◌, Bool, true, false, cond, List, [], ◌∷◌}
use Rattle.std.proofs.Common.{◌++◌, length, append_assoc, length-append, Option, Some, None}
use Rattle.std.proofs.Common.{Result, Ok, Err, refl, sym, ap, ◌∙◌, subst, arith}
use Rattle.std.specs.Option.{option_map_or}
use Rattle.cell_base.specs.declared.cells.Cell.{Cell}
use Rattle.step_text.specs.Words.{words}
use Rattle.record_text.specs.declared.blocks.Block.{Block}
use Rattle.record_text.specs.declared.stages.Stage.{Stage}
use Rattle.record_text.specs.declared.stages.Stage.TheVariants.{Between}
use Rattle.record_text.specs.BadLines.{IsFront}
use Rattle.record_text.specs.Progress.{Reading, is_whole, on_line, read_from}
use Rattle.record_text.specs.Reading.{◌>>=◌}
use Rattle.record_text.proofs.Finishing.{front_reached}
use Rattle.record_text.proofs.Advancing.{on_line-sound}
use Rattle.record_text.proofs.Reached.{IsReached}
use Rattle.record_text.proofs.Running.{lines_read, run_one, run_nothing, run-append}

pub same_Ok : {A E : Type 0} (x y : A) → ◌≡◌ {A = Result A E} (Ok x) (Ok y) → x ≡ y
same_Ok x y is = cc

pub same_Err : {A E : Type 0} (x y : E) → ◌≡◌ {A = Result A E} (Err x) (Err y) → x ≡ y
same_Err x y is = cc

module _ (cell : Cell) where
  -- where reading stops
  pub record Stops (lines : List (List ℕ)) (k : ℕ) : Type 0 where
    pub before : List (List ℕ)
    pub line : List ℕ
    pub later : List (List ℕ)
    pub split : lines ≡ before ++ line ∷ later
    pub number : k ≡ length before + 1
    pub front : IsFront cell before
    pub stuck : 1 ≤ length later → lines_read cell 1 [] Between (before ++ line ∷ []) ≡ None

  pub read_stops : (n : ℕ) (blocks : List Block) (at : Stage) (lines : List (List ℕ)) (p : List ℕ) (ps : List (List ℕ)) (k : ℕ)
      → n ≡ length lines + 1 → IsReached cell blocks at lines
      → lines_read cell 1 [] Between lines ≡ Some (blocks, at) → read_from cell n blocks at (p ∷ ps) ≡ Err k → Stops (lines ++ p ∷ ps) k
  read_stops n blocks at lines p [] k count reached ran is = by (is_whole blocks at p) is where
    by : (whole : Bool) → ◌≡◌ {A = Result (List Block) ℕ} (cond whole (Ok blocks) (Err n)) (Err k) → Stops (lines ++ p ∷ []) k
    by true is = absurd cc
    by false is =
        let number : n ≡ k = same_Err n k is in
        record {
          before = lines;
          line = p;
          later = [];
          split = refl;
          number = sym number
              ∙ count;
          front = front_reached cell lines blocks at reached;
          stuck = λ some. absurd (omega (arith, some));
        }
  read_stops n blocks at lines p (next ∷ more) k count reached ran is =
      by (on_line cell n blocks at (words p)) refl is (λ r. read_stops (n + 1) r.0 r.1 (lines ++ p ∷ []) next more k) where
        place : 1 + length lines ≡ n
        place = omega (arith, count)

        ran_more : lines_read cell 1 [] Between (lines ++ p ∷ [])
            ≡ (on_line cell n blocks at (words p) >>= λ r. lines_read cell (n + 1) r.0 r.1 [])
        ran_more =
            run-append cell 1 [] Between lines (p ∷ [])
            ∙ ap (λ o. o >>= λ (r : Reading). lines_read cell (1 + length lines) r.0 r.1 (p ∷ [])) ran
            ∙ ap (λ m. lines_read cell m blocks at (p ∷ [])) place ∙ run_one cell n blocks at p

        by : (o : Option Reading) → on_line cell n blocks at (words p) ≡ o
            → option_map_or (λ (r : Reading). read_from cell (n + 1) r.0 r.1 (next ∷ more)) o (Err n) ≡ Err k
            → ((r : Reading) → n + 1 ≡ length (lines ++ p ∷ []) + 1 → IsReached cell r.0 r.1 (lines ++ p ∷ [])
            → lines_read cell 1 [] Between (lines ++ p ∷ []) ≡ Some (r.0, r.1)
            → read_from cell (n + 1) r.0 r.1 (next ∷ more) ≡ Err k → Stops ((lines ++ p ∷ []) ++ next ∷ more) k)
            → Stops (lines ++ p ∷ next ∷ more) k
        by None on is later =
            let number : n ≡ k = same_Err n k is in
            record {
              before = lines;
              line = p;
              later = next ∷ more;
              split = refl;
              number = sym number ∙ count;
              front = front_reached cell lines blocks at reached;
              stuck = λ some. ran_more ∙ ap (λ o. o >>= λ r. lines_read cell (n + 1) r.0 r.1 []) on;
            }
        by (Some r) on is later =
            subst (λ (xs : List (List ℕ)). Stops xs k) (append_assoc lines (p ∷ []) (next ∷ more))
            (later r (omega (arith, count, length-append lines (p ∷ []))) (on_line-sound cell blocks lines p r n at count reached on)
            (ran_more ∙ ap (λ o. o >>= λ r. lines_read cell (n + 1) r.0 r.1 []) on ∙ run_nothing cell (n + 1) r.0 r.1) is)
