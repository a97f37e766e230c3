-- The record of a legal history and its plan is right.
use Rattle.std.proofs.Common.{◌≡◌, ℕ, zero, suc, ◌+◌, ◌<◌, Bool, true, false, cond, ◌==◌, List, [], ◌∷◌}
use Rattle.std.proofs.Common.{◌++◌, length, append-nil, zero-add, None, refl, sym, ap, ◌∙◌, subst, arith, eq-eqb}
use Rattle.std.specs.List.{All}
use Rattle.cell_base.specs.declared.cells.Cell.{Cell}
use Rattle.cell_base.specs.declared.requests.Part.{Part}
use Rattle.cell_base.specs.declared.requests.Request.{Request}
use Rattle.cell_base.specs.declared.requests.Told.{Told}
use Rattle.cell_base.specs.declared.requests.Told.TheVariants.{Answered, Halted}
use Rattle.cell_base.specs.declared.shifts.Entry.{Entry}
use Rattle.cell_base.specs.Fits.{CellFits, RequestFits}
use Rattle.cell_base.specs.Histories.{is_granted, state_after_entry, after, after_requests, IsToldRightly, IsLegal}
use Rattle.cell_base.specs.Plans.{Drains, plan_of}
use Rattle.cell_base.specs.Scripts.{holds_halt}
use Rattle.policy_laws.proofs.Admission.{admission_law}
use Rattle.policy_laws.proofs.Plans.{plan_law}
use Rattle.policy_laws.proofs.States.{IsAdmitted-empty}
use Rattle.record_text.specs.declared.blocks.Tail.{Tail}
use Rattle.record_text.specs.declared.blocks.Tail.TheVariants as tails
use Rattle.record_text.specs.Records.{block_of}
use Rattle.shift_checker.specs.declared.verdict.Why.TheVariants as whys
use Rattle.shift_checker.specs.declared.verdict.Verdict.TheVariants.{Yes}
use Rattle.shift_checker.specs.Judging.{fails_unless, is_told_rightly, judge_entry, judge_entries}
use Rattle.shift_checker.specs.Judging.{judge_tail, judge_block, verdict_from, judge}
use Rattle.shift_checker.proofs.Replying.{same_itself}
use Rattle.shift_checker.specs.Replies.{same_reply}
use Rattle.shift_checker.proofs.Going.{steps_right}
use Rattle.shift_checker.proofs.Verdicts.{all_right, right_after}

module _ (cell : Cell) where
  -- what is told rightly passes the test
  told_passes : (parts : List Part) (request : Request) (told : Told) (later : List Entry) → IsToldRightly cell parts request told later
      → is_told_rightly cell parts request told ≡ true
  told_passes parts request (Answered reply) later is = subst (λ r. same_reply r reply ≡ true) (sym is) (same_itself reply)
  told_passes parts request Halted later is = ap is_granted is.0

  legal_at : (parts : List Part) (entries : List Entry) (i : ℕ) → IsLegal cell parts entries → i < length entries
      → judge_entry cell parts entries i ≡ None
  legal_at parts [] i legal within = absurd (omega (arith, within))
  legal_at parts (entry ∷ entries) zero legal within =
      ap (λ right. fails_unless right whys.Reply) (told_passes parts entry.request entry.told entries legal.0)
  legal_at parts (entry ∷ entries) (suc i) legal within =
      legal_at (state_after_entry cell parts entry.request entry.told) entries i legal.1 (omega (arith, within))

  -- the tail that tells of the parts and of a plan that drains them is right
  tail_right : (parts : List Part) (plan : List Request) (n : ℕ) → Drains cell parts plan
      → verdict_from n (judge_tail cell parts (tails.Planned (length parts) plan)) ≡ Yes
  tail_right parts plan n drains =
      let none : nothing (after_requests cell parts plan) ≡ true = ap (λ (ps : List Part). nothing ps) drains.emptied in
      rw (eq-eqb (length parts) (length parts) refl, drains.granted, none) (steps_right cell parts plan drains.granted (n + 1 + 1))
    where
      nothing : List Part → Bool
      nothing ps = length ps == 0

  -- the lines of a block that begins at the empty state
  block_right : (shift : ℕ) (history : List Entry) (plan : List Request) → IsLegal cell [] history → holds_halt history ≡ false
      → Drains cell (after cell [] history) plan → verdict_from 1 (judge_block cell [] 0 (block_of cell [] shift 0 history plan)) ≡ Yes
  block_right shift history plan legal unhalted drains =
      let parts : List Part = after cell [] history in
      let Right : Tail → Type 0 = λ tail. verdict_from 2 (judge_entries cell [] history ++ judge_tail cell parts tail) ≡ Yes in
      let entries : verdict_from 2 (judge_entries cell [] history) ≡ Yes =
      all_right (judge_entry cell [] history) 2 0 (length history)
      (λ i below. ap (judge_entry cell [] history) (zero-add i) ∙ legal_at [] history i legal below) in
      subst (λ (halts : Bool). Right (cond halts tails.Halted (tails.Planned (length parts) plan))) (sym unhalted)
      (right_after 2 (judge_entries cell [] history) (judge_tail cell parts (tails.Planned (length parts) plan)) entries
      ∙ tail_right parts plan (2 + length (judge_entries cell [] history)) drains)

  pub record_right : CellFits cell → (shift : ℕ) (history : List Entry) → All (λ (entry : Entry). RequestFits cell entry.request) history
      → IsLegal cell [] history → holds_halt history ≡ false
      → judge cell (block_of cell [] shift 0 history (plan_of cell (after cell [] history)) ∷ []) ≡ Yes
  record_right fits shift history each legal unhalted =
      let parts : List Part = after cell [] history in
      let plan : List Request = plan_of cell parts in
      let admitted = (admission_law cell fits [] (IsAdmitted-empty cell)).history history each in
      ap (verdict_from 1) (append-nil (judge_block cell [] 0 (block_of cell [] shift 0 history plan)))
      ∙ block_right shift history plan legal unhalted (plan_law cell fits parts admitted).drains
