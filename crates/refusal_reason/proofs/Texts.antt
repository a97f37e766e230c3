-- The lines of the members of a neighborhood, and the text of all resources.
use Rattle.std.proofs.Common.{ap₂, ◌≡◌, ℕ, ◌+◌, ◌<◌, List, [], ◌∷◌, ◌++◌, length, get_or, take}
use Rattle.std.proofs.Common.{map, All, Contains, refl, sym, ap, subst, arith, ◌∙◌, append_assoc, append-nil}
use Rattle.std.specs.List.{concat, flat_map, range_with_len}
use Rattle.std.proofs.lemmas.List.{get_or_default, map-append, take_more}
use Rattle.std.proofs.lemmas.List.Folds.{concat-append}
use Rattle.std.proofs.lemmas.List.Elements.{All-map, All-weaker, All-contains, All-filter}
use Rattle.cell_base.specs.declared.cells.Cell.{Cell}
use Rattle.cell_base.specs.Stages.{IsStage, stages}
use Rattle.cell_base.specs.Fits.{CellFits}
use Rattle.cell_base.specs.Neighborhoods.{leads, masks_of, neighborhood}
use Rattle.cell_base.specs.Numbers.{IsNumber, number_of, stage_numbered}
use Rattle.policy_laws.proofs.Lists.{Contains-head, Contains-tail}
use Rattle.policy_laws.proofs.Growing.{join_next}
use Rattle.policy_laws.proofs.Stages.{stages_standing}
use Rattle.policy_laws.proofs.Numbering.{numbering_law}
use Rattle.route_table.specs.declared.stage_table.StageNo.{StageNo}
use Rattle.upstream_sets.specs.Members.{AreNeighborhoodsOf, stage_no}
use Rattle.refusal_reason.specs.Shown.{member_lines, resource_line, resource_lines, stage_line, stage_lines}

-- the same function on the elements of a list
map_same : {X Y : Type 0} (f g : X → Y) (xs : List X) → ((x : X) → Contains xs x → f x ≡ g x) → map f xs ≡ map g xs
map_same f g [] same = refl
map_same f g (x ∷ xs) same = ap₂ ◌∷◌ (same x (Contains-head x xs)) (map_same f g xs (λ y c. same y (Contains-tail x y xs c)))

map_twice : {X Y Z : Type 0} (f : Y → Z) (g : X → Y) (xs : List X) → map f (map g xs) ≡ map (λ x. f (g x)) xs
map_twice f g [] = refl
map_twice f g (x ∷ xs) = ap (λ rest. f (g x) ∷ rest) (map_twice f g xs)

module _ (cell : Cell) (r : ℕ) where
  members_standing : All (IsStage cell) (neighborhood cell r)
  members_standing = All-filter (λ s. leads cell s r) (IsStage cell) (stages cell) (stages_standing cell)

  -- the members by their numbers
  members_numbered : All (λ (stage : StageNo). IsNumber cell stage.0) (map (stage_no cell) (neighborhood cell r))
  members_numbered =
      All-map (λ (stage : StageNo). IsNumber cell stage.0) (stage_no cell) (neighborhood cell r)
      (All-weaker (IsStage cell) (λ s. IsNumber cell (number_of cell s)) (numbering_law cell).numbers
      (neighborhood cell r) members_standing)

  members_lines : member_lines cell (map (stage_no cell) (neighborhood cell r)) ≡ stage_lines cell (neighborhood cell r)
  members_lines =
      map_twice (λ (stage : StageNo). stage_line cell (stage_numbered cell stage.0)) (stage_no cell) (neighborhood cell r)
      ∙ map_same (λ s. stage_line cell (stage_numbered cell (number_of cell s))) (stage_line cell) (neighborhood cell r)
      (λ s c. ap (stage_line cell)
      ((numbering_law cell).numbered s (All-contains (IsStage cell) (neighborhood cell r) s members_standing c)))

module _ (cell : Cell) (fits : CellFits cell) (lists : List (List StageNo)) (are : AreNeighborhoodsOf (masks_of cell) lists)
    (r : ℕ) (within : r < length cell.resources) (stages default : List StageNo) (read : stages ≡ get_or lists r default) where
  -- what is read of the list of a resource is its members by their numbers
  list_is : stages ≡ map (stage_no cell) (neighborhood cell r)
  list_is =
      let there : r < length lists = omega (arith, within, fits.resource_count.1, are.complete) in
      read ∙ get_or_default lists r default [] there ∙ are.each r (omega (arith, there, are.complete)) cell fits refl

  pub are_members : (on : Cell) → on ≡ cell → All (λ (stage : StageNo). IsNumber on stage.0) stages
  are_members on is =
      subst (λ (c : Cell). All (λ (stage : StageNo). IsNumber c stage.0) stages) (sym is)
      (subst (λ (list : List StageNo). All (λ (stage : StageNo). IsNumber cell stage.0) list) (sym list_is) (members_numbered cell r))

  -- the lines of a resource, made of that list, stand behind those of the resources before it
  pub one_more : (on : Cell) → on ≡ cell → (text : List ℕ) → text ≡ concat (flat_map (resource_lines cell) (range_with_len 0 r))
      → text ++ resource_line on r ++ concat (member_lines on stages) ≡ concat (flat_map (resource_lines cell) (range_with_len 0 (r + 1)))
  one_more on is text before =
      let these : resource_line on r ++ concat (member_lines on stages) ≡ concat (resource_lines cell r) =
      ap (λ (c : Cell). resource_line c r ++ concat (member_lines c stages)) is
      ∙ ap (λ (lines : List (List ℕ)). resource_line cell r ++ concat lines) (ap (member_lines cell) list_is ∙ members_lines cell r) in
      append_assoc text (resource_line on r) (concat (member_lines on stages)) ∙ ap₂ ◌++◌ before these
      ∙ sym (concat-append (flat_map (resource_lines cell) (range_with_len 0 r)) (resource_lines cell r))
      ∙ ap concat (sym (join_next (resource_lines cell) r))

-- the text of some members grows by the line of the next one
pub next_member : (table : Cell) (members : List StageNo) (i : ℕ) (d : StageNo) → i < length members
    → concat (member_lines table (take (i + 1) members))
    ≡ concat (member_lines table (take i members)) ++ stage_line table (stage_numbered table (get_or members i d).0)
next_member table members i d within =
    let line = λ (stage : StageNo). stage_line table (stage_numbered table stage.0) in
    ap (λ (list : List StageNo). concat (map line list)) (take_more members i d within)
    ∙ ap concat (map-append line (take i members) (get_or members i d ∷ []))
    ∙ concat-append (map line (take i members)) (line (get_or members i d) ∷ [])
    ∙ ap (λ (last : List ℕ). concat (map line (take i members)) ++ last) (append-nil (line (get_or members i d)))
