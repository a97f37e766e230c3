-- Grants as one history: its lines are theirs, it is legal where each was granted in its turn, and its record is right.
use Rattle.std.proofs.Common.{◌≡◌, ◌∙◌, ℕ, true, false, List, [], ◌∷◌, map, refl, subst, ap}
use Rattle.std.proofs.lemmas.Bool.{and_parts}
use Rattle.std.proofs.lemmas.List.Elements.{All-map}
use Rattle.cell_base.specs.declared.cells.Cell.{Cell}
use Rattle.cell_base.specs.declared.requests.Part.{Part}
use Rattle.cell_base.specs.declared.shifts.Entry.{Entry}
use Rattle.cell_base.specs.declared.shifts.Grant.{Grant}
use Rattle.cell_base.specs.Fits.{CellFits, RequestFits}
use Rattle.cell_base.specs.Histories.{IsLegal, after, after_requests, all_granted, is_granted, replay, requests_of}
use Rattle.cell_base.specs.Outcomes.{reply_to, state_after}
use Rattle.cell_base.specs.Plans.{plan_of}
use Rattle.cell_base.specs.Scripts.{holds_halt}
use Rattle.policy_laws.proofs.Granting.{granted_alone}
use Rattle.journal_format.specs.Replayed.{AreDue}
use Rattle.record_text.specs.Lines.{head_words, line_of}
use Rattle.record_text.specs.Records.{block_of}
use Rattle.record_printer.specs.Blocks.{entry_line, history_lines}
use Rattle.shift_checker.specs.Judging.{judge}
use Rattle.shift_checker.specs.declared.verdict.Verdict.TheVariants.{Yes}
use Rattle.shift_checker.proofs.Legal.{record_right}
use Rattle.look_commands.specs.Grants.{block_of_grants, entry_of, grant_line, history_of}

-- no entry halted
pub none_halts : (grants : List Grant) → holds_halt (history_of grants) ≡ false
none_halts [] = refl
none_halts (grant ∷ grants) = none_halts grants

module _ (cell : Cell) where
  -- the lines of the entries are those of the grants
  lines_same : (grants : List Grant) → map (grant_line cell) grants ≡ map (entry_line cell) (history_of grants)
  lines_same [] = refl
  lines_same (grant ∷ grants) = ap (λ (rest : List (List ℕ)). grant_line cell grant ∷ rest) (lines_same grants)

  -- after the head they are the history
  pub entry_lines : (grants : List Grant) (head : List ℕ) → head ≡ line_of (head_words 0 0)
      → head ∷ map (grant_line cell) grants ≡ history_lines cell 0 0 (history_of grants)
  entry_lines grants head is =
      ap (λ (line : List ℕ). line ∷ map (grant_line cell) grants) is
      ∙ ap (λ (rest : List (List ℕ)). line_of (head_words 0 0) ∷ rest) (lines_same grants)

  -- the history leaves what the grants leave
  after-history : (parts : List Part) (grants : List Grant)
      → after cell parts (history_of grants) ≡ after_requests cell parts (requests_of grants)
  after-history parts [] = refl
  after-history parts (grant ∷ grants) = after-history (state_after cell parts grant.request) grants

  pub after_is : (grants : List Grant) → after cell [] (history_of grants) ≡ replay cell grants
  after_is grants = after-history [] grants

  -- and is legal
  legal_from : (parts : List Part) (grants : List Grant) → all_granted cell parts (requests_of grants) ≡ true
      → IsLegal cell parts (history_of grants)
  legal_from parts [] granted = tt
  legal_from parts (grant ∷ grants) granted =
      let behind : List Part = state_after cell parts grant.request in
      let both = and_parts (is_granted (reply_to cell parts grant.request)) (all_granted cell behind (requests_of grants)) granted in
      (granted_alone (reply_to cell parts grant.request) both.0, legal_from behind grants both.1)

  -- so its record is right
  pub grants_right : CellFits cell → (grants : List Grant) → AreDue cell grants
      → judge cell (block_of_grants cell grants ∷ []) ≡ Yes
  grants_right fits grants due =
      subst (λ (left : List Part). judge cell (block_of cell [] 0 0 (history_of grants) (plan_of cell left) ∷ []) ≡ Yes) (after_is grants)
      (record_right cell fits 0 (history_of grants)
      (All-map (λ (entry : Entry). RequestFits cell entry.request) entry_of grants due.fit)
      (legal_from [] grants due.granted) (none_halts grants))
