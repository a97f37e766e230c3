-- The row of a stage, and what it tells of a part there.
use Rattle.std.proofs.Common.{◌≡◌, ℕ, zero, suc, ◌+◌, ◌<◌, ◌==◌, Bool, true, false, not, cond, List, [], ◌∷◌, length}
use Rattle.std.proofs.Common.{Option, Some, None, slice_get, get_or, ap, subst, sym, refl, ◌∙◌, ⊎_elim, ◌++◌, arith}
use Rattle.std.specs.Option.{option_map, is_some, IfSome}
use Rattle.std.proofs.lemmas.Bool.{false≢true, true≢false, ne_eqb}
use Rattle.std.proofs.lemmas.Option.{none-some}
use Rattle.part_table.proofs.Places.{get_in_push}
use Rattle.cell_base.specs.declared.cells.Cell.{Cell}
use Rattle.cell_base.specs.declared.requests.Part.{Part}
use Rattle.cell_base.specs.Stages.{Stage, stage, stage_of, IsStage, successor}
use Rattle.cell_base.specs.Numbers.{number_of, stage_numbered}
use Rattle.cell_base.specs.Plans.{work_from, work_of}
use Rattle.policy_laws.proofs.Numbering.{numbering_law}
use Rattle.admission_core.specs.declared.stage_rows.Row.{Row}
use Rattle.admission_core.specs.Rows.{AreRows, IsRowOf}

-- what was read at a place stands there
get_read : {X : Type 0} (xs : List X) (i : ℕ) (x : X) → i < length xs → x ≡ get_or xs i x → slice_get xs i ≡ Some x
get_read [] i x below is = absurd (omega arith)
get_read (y ∷ ys) zero x below is = ap Some (sym is)
get_read (y ∷ ys) (suc i) x below is = get_read ys i x (omega arith) is

module _ (cell : Cell) (rows : List Row) (are : AreRows cell rows) (s : Stage) (standing : IsStage cell s) where
  pub row_within : (n : ℕ) → n ≡ number_of cell s → n < length rows
  row_within n is = omega (arith, is, are.complete, (numbering_law cell).numbers s standing)

  pub row_at : (n : ℕ) (row : Row) → n ≡ number_of cell s → row ≡ get_or rows n row → IsRowOf cell s row
  row_at n row is read =
      subst (λ t. IsRowOf cell t row) (ap (stage_numbered cell) is ∙ (numbering_law cell).numbered s standing)
      (are.each n row (get_read rows n row (row_within n is) read))

-- one row more
pub rows_pushed : (cell : Cell) (rows : List Row) (row : Row)
    → ((n : ℕ) (old : Row) → slice_get rows n ≡ Some old → IsRowOf cell (stage_numbered cell n) old)
    → IsRowOf cell (stage_numbered cell (length rows)) row
    → (n : ℕ) (old : Row) → slice_get (rows ++ row ∷ []) n ≡ Some old → IsRowOf cell (stage_numbered cell n) old
rows_pushed cell rows row each is n old e = ⊎_elim (λ there. each n old there) (λ last.
    subst (λ k. IsRowOf cell (stage_numbered cell k) old) (sym last.0)
    (subst (λ (r : Row). IsRowOf cell (stage_numbered cell (length rows)) r) last.1 is)) (get_in_push rows row old n e)

-- there is no first successor exactly at a last stage
pub first_of_last : (kind : ℕ) (first : Option ℕ) (next : List Stage) (last : Bool) → option_map (stage kind) first ≡ slice_get next 0
    → is_some first ≡ not last → last ≡ (length next == 0)
first_of_last kind None [] true e f = refl
first_of_last kind None [] false e f = absurd (false≢true f)
first_of_last kind None (t ∷ ts) last e f = absurd (none-some t e)
first_of_last kind (Some place) [] last e f = absurd (none-some (stage kind place) (sym e))
first_of_last kind (Some place) (t ∷ ts) true e f = absurd (true≢false f)
first_of_last kind (Some place) (t ∷ ts) false e f = sym (ne_eqb (length (t ∷ ts)) 0 (λ same. absurd (omega (arith, same))))

-- the first successor of a stage, by its type and place
module _ (cell same : Cell) (s : Stage) (kind place : ℕ) (first : Option ℕ) (of : same ≡ cell) (is : s ≡ stage kind place) where
  pub first_named : option_map (stage kind) first ≡ successor same (stage kind place) 0
      → option_map (stage s.kind) first ≡ successor cell s 0
  first_named e =
      subst (λ (t : Stage). option_map (stage t.kind) first ≡ successor cell t 0) (sym is)
      (subst (λ (cell : Cell). option_map (stage kind) first ≡ successor cell (stage kind place) 0) of e)

  pub first_stays : IfSome first (λ next. IsStage same (stage kind next)) → IfSome first (λ next. IsStage cell (stage s.kind next))
  first_stays e =
      subst (λ (t : Stage). IfSome first (λ next. IsStage cell (stage t.kind next))) (sym is)
      (subst (λ (cell : Cell). IfSome first (λ next. IsStage cell (stage kind next))) of e)

-- a stage by its type and place
pub stage_named : (s : Stage) (kind place : ℕ) → kind ≡ s.kind → place ≡ s.place → s ≡ stage kind place
stage_named s kind place of at = λ i. record { kind = sym of i; place = sym at i }

-- a part that is not done needs one step more
pub work_undone : (cell : Cell) (s : Stage) (left : ℕ) → left ≡ work_from cell s true → left + 1 ≡ work_from cell s false
work_undone cell s left is = omega (arith, is)

-- the steps that a part needs, by the row of its stage
pub work_by_row : (cell : Cell) (part : Part) (row : Row) → IsRowOf cell (stage_of part) row → (n : ℕ)
    → n ≡ cond part.done row.left (row.left + 1) → n ≡ work_of cell part
work_by_row cell part row is n e = e ∙ at part.done
  where
    at : (done : Bool) → cond done row.left (row.left + 1) ≡ work_from cell (stage_of part) done
    at true = is.left
    at false = work_undone cell (stage_of part) row.left is.left
