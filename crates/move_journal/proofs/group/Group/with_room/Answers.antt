-- A closed gate alone.
use Rattle.std.specs.Prelude.{replicate}
use Rattle.std.proofs.Common.{◌≡◌, ◌-◌, ℕ, List, [], ◌∷◌, ◌++◌, length, ◌∙◌, ap, arith}
use Rattle.cell_base.specs.declared.shifts.Grant.{Grant}
use Rattle.move_journal.specs.Groups.{IsGroup, grants_in}
use Rattle.move_journal.proofs.Entries.{empty_group}
use Rattle.move_journal.proofs.group.Group.with_room.Goals as goal

empty : (c : goal.After-push_reserved)
    → (grants_in c.push_reserved.new.self.items ≡ []) × IsGroup c.args.most c.push_reserved.new.self
empty c =
    empty_group c.args.most c.push_reserved.new.self c.requires
    (c.push_reserved.ensures.items ∙ ap (λ (l : List (List ℕ)). l ++ replicate 17 0 ∷ []) c.in_ok-entries.ensures.items)
    (omega (arith, c.in_ok-entries.ensures.capacity, c.push_reserved.ensures.capacity))

pub invariant_of-result : goal.invariant_of-result
invariant_of-result c = (empty c).1

pub returns : goal.returns
returns c =
    ap (λ (grants : List Grant). record { grants = grants; spare = c.args.most - length grants }) (empty c).0
    ∙ ap (λ (n : ℕ). record { grants = []; spare = n }) (omega arith)
