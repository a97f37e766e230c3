-- Ordered states: the test finds them, and what keeps them ordered.
use Rattle.std.proofs.Common.{◌≡◌, ℕ, ◌+◌, ◌<◌, ◌≤◌, Bool, true, false, not, ◌&&◌, ◌==◌, cond, nat_le, Some, List, [], ◌∷◌, ◌++◌}
use Rattle.std.proofs.Common.{length, map, drop, Contains, All, filter, ap, refl, sym, subst, arith, ◌∙◌}
use Rattle.std.specs.List.{list_all}
use Rattle.std.proofs.lemmas.Bool.{and_parts, and_from, leb-true, le-leb, eqb-true, eq-eqb, not_from_true}
use Rattle.std.proofs.lemmas.List.Elements.{All-weaker, All-contains, All-head, All-tail, Contains-push}
use Rattle.std.proofs.lemmas.List.Sums.{AllPass-from_list_all, list_all-from_AllPass, length-filter, sum_by_push}
use Rattle.cell_base.specs.declared.cells.Cell.{Cell}
use Rattle.cell_base.specs.declared.requests.Part.{Part}
use Rattle.cell_base.specs.Stages.{Stage, IsStage, stage_of, successors, successor, resource_at, resource_numbers, capacity_of}
use Rattle.cell_base.specs.Stages.{first_branch_path}
use Rattle.cell_base.specs.Policy.{is_of_job, IsState, is_state}
use Rattle.cell_base.specs.Outcomes.{without, arrival, finish_first}
use Rattle.cell_base.specs.Plans.{resource_of_part}
use Rattle.cell_base.specs.Fits.{CellFits}
use Rattle.cell_base.proofs.Admission.{state_by_test, all_numbers, each_number}
use Rattle.policy_laws.proofs.Lists.{Contains-slice_get}
use Rattle.policy_laws.proofs.Stages.{arrival_stage, successor_stage}
use Rattle.policy_laws.proofs.Parts.{is_of_job-same, without-others, without-other}
use Rattle.policy_laws.proofs.States.{IsState-push, IsState-finish_first}
use Rattle.policy_laws.proofs.Requests.{moved}
use Rattle.policy_laws.proofs.Work.{first_branch_path-next}
use Rattle.banker_check.specs.Ways.{way, stands_on, held, is_held_up, CanRun}
use Rattle.banker_check.specs.StuckSets.{stuck}
use Rattle.banker_check.specs.Orders.{IsWithinUnits, IsOrder, IsOrdered, is_ordered}
use Rattle.banker_check.specs.Laws.{OrderedLaw}
use Rattle.banker_check.proofs.Greed.{free-runs, runs-free, loose-order, ordered-loose, loose-stuck, stuck-loose, ordered-without}
use Rattle.banker_check.proofs.Greed.{order-cons}
use Rattle.banker_check.proofs.Finishing.{held-finish_first, stuck-finish_first}

-- the test finds whether there is an order
pub ordered_law : (cell : Cell) → OrderedLaw cell
ordered_law cell parts = (there, back)
  where
    units : Bool
    units = list_all (λ r. nat_le (held cell parts r) (capacity_of cell r)) (resource_numbers cell)

    there : is_ordered cell parts ≡ true → IsOrdered cell parts
    there e =
        let split = and_parts (is_state cell parts && units) (stuck cell parts == 0) e in
        let both = and_parts (is_state cell parts) units split.0 in
        let state = (state_by_test cell parts).0 both.0 in
        record {
          state = state;
          within = each_number (length cell.resources) (λ r. held cell parts r ≤ capacity_of cell r)
              (All-weaker _ (λ r. held cell parts r ≤ capacity_of cell r) (λ r here. leb-true _ _ here) (resource_numbers cell)
              (AllPass-from_list_all (λ r. nat_le (held cell parts r) (capacity_of cell r)) (resource_numbers cell) both.1));
          order = loose-order cell parts state.distinct (stuck-loose cell parts (eqb-true _ _ split.1));
        }

    back : IsOrdered cell parts → is_ordered cell parts ≡ true
    back ordered =
        and_from _ _
        (and_from _ _ ((state_by_test cell parts).1 ordered.state)
        (list_all-from_AllPass (λ r. nat_le (held cell parts r) (capacity_of cell r)) (resource_numbers cell)
        (all_numbers (length cell.resources) (λ r. nat_le (held cell parts r) (capacity_of cell r) ≡ true)
        (λ r h. le-leb _ _ (ordered.within r h)))))
        (eq-eqb _ _ (loose-stuck cell parts (ordered-loose cell parts ordered)))

module _ (cell : Cell) where
  -- work that is done leaves the state ordered
  pub ordered-finish_first : (test : Part → Bool) (parts : List Part) → IsOrdered cell parts → IsOrdered cell (finish_first test parts)
  ordered-finish_first test parts ordered =
      let state = IsState-finish_first cell test parts ordered.state in
      record {
        state = state;
        within = λ r h. omega (arith, ordered.within r h, held-finish_first cell test parts r);
        order = loose-order cell (finish_first test parts) state.distinct
            (stuck-loose cell (finish_first test parts)
            (stuck-finish_first cell test parts ∙ loose-stuck cell parts (ordered-loose cell parts ordered)));
      }

  pub held-push : (parts : List Part) (part : Part) (r : ℕ) → held cell (parts ++ part ∷ []) r ≡ held cell parts r + cond
      (stands_on cell r part) 1 0
  held-push parts part r =
      omega (
        arith,
        length-filter (stands_on cell r) (parts ++ part ∷ []),
        length-filter (stands_on cell r) parts,
        sum_by_push (λ other. cond {A = ℕ} (stands_on cell r other) 1 0) parts part,
      )

-- a filter that passes all but what is pushed
filter-push_none : {X : Type 0} (p : X → Bool) (xs : List X) (x : X) → p x ≡ false → filter p (xs ++ x ∷ []) ≡ filter p xs
filter-push_none p [] x e = rw e refl
filter-push_none p (y ∷ ys) x e = ap (λ rest. cond (p y) (y ∷ rest) rest) (filter-push_none p ys x e)

module _ (cell : Cell) (fits : CellFits cell) (parts : List Part) (part : Part) (to : Stage) where
  -- the way of a part that goes on begins at the next stage
  way-moved : IsStage cell (stage_of part) → successor cell (stage_of part) 0 ≡ Some to
      → way cell part ≡ resource_at cell to ∷ way cell (arrival cell part.job part.kind to.place)
  way-moved stage e =
      let next = Contains-slice_get (successors cell (stage_of part)) 0 to e in
      let stage_t = successor_stage cell fits (stage_of part) to next in
      let onward = first_branch_path-next cell fits to stage_t in
      let behind : drop 1 (first_branch_path cell (stage_of part)) ≡ first_branch_path cell to =
      rw (first_branch_path-next cell fits (stage_of part) stage, e) in
      ap (map (resource_at cell)) (behind ∙ onward)
      ∙ ap (λ rest. resource_at cell to ∷ map (resource_at cell) (drop 1 rest)) (sym onward)
      ∙ ap (λ s. resource_at cell to ∷ map (resource_at cell) (drop 1 (first_branch_path cell s)))
      (sym (arrival_stage cell fits part to next))

  -- a part that could be first goes on, and the state stays ordered
  pub ordered-moved : IsOrdered cell parts → Contains parts part → is_held_up cell (without parts part.job) part ≡ false
      → successor cell (stage_of part) 0 ≡ Some to → IsOrdered cell (moved cell parts part to)
  ordered-moved ordered c free e = record { state = state; within = within; order = (arrived ∷ left.order.0, order) }
    where
      arrived : Part
      arrived = arrival cell part.job part.kind to.place

      others : List Part
      others = without parts part.job

      next : Contains (successors cell (stage_of part)) to
      next = Contains-slice_get (successors cell (stage_of part)) 0 to e

      left : IsOrdered cell others
      left = ordered-without cell parts part.job ordered

      place : resource_of_part cell arrived ≡ resource_at cell to
      place = ap (resource_at cell) (arrival_stage cell fits part to next)

      room : All (λ r. held cell others r < capacity_of cell r) (resource_at cell to ∷ way cell arrived)
      room = subst (All (λ r. held cell others r < capacity_of cell r))
          (way-moved (All-contains (λ part. IsStage cell (stage_of part)) parts part ordered.state.standing c) e)
          (free-runs cell others part free)

      state : IsState cell (others ++ arrived ∷ [])
      state = IsState-push cell others arrived left.state (without-others parts part.job)
          (subst (IsStage cell) (sym (arrival_stage cell fits part to next)) (successor_stage cell fits (stage_of part) to next))

      within : IsWithinUnits cell (others ++ arrived ∷ [])
      within r h = at (stands_on cell r arrived) refl
        where
          at : (b : Bool) → stands_on cell r arrived ≡ b → held cell (others ++ arrived ∷ []) r ≤ capacity_of cell r
          at true here =
              let same : resource_at cell to ≡ r = sym place ∙ eqb-true _ _ here in
              let more : held cell others r < capacity_of cell r =
              subst (λ q. held cell others q < capacity_of cell q) same
              (All-head (λ q. held cell others q < capacity_of cell q) (resource_at cell to) (way cell arrived) room) in
              omega (arith, more, held-push cell others arrived r, ap (λ b. cond {A = ℕ} b 1 0) here)
          at false away = omega (arith, left.within r h, held-push cell others arrived r, ap (λ b. cond {A = ℕ} b 1 0) away)

      same : without (others ++ arrived ∷ []) part.job ≡ others
      same =
          filter-push_none (λ other. not (is_of_job part.job other)) others arrived
          (not_from_true _ (is_of_job-same part.job arrived refl))
          ∙ without-other others part.job (without-others parts part.job)

      order : IsOrder cell (others ++ arrived ∷ []) (arrived ∷ left.order.0)
      order =
          order-cons cell (others ++ arrived ∷ []) left.order.0 arrived state.distinct (Contains-push others arrived)
          (runs-free cell (without (others ++ arrived ∷ []) part.job) arrived
          (subst (λ ps. CanRun cell ps arrived) (sym same)
          (All-tail (λ r. held cell others r < capacity_of cell r) (resource_at cell to) (way cell arrived) room)))
          (subst (λ ps. IsOrder cell ps left.order.0) (sym same) left.order.1)
