-- A closed gate alone.
use Rattle.std.specs.Prelude.{replicate}
use Rattle.std.proofs.Common.{◌≡◌, ℕ, List, [], ◌∷◌, ◌++◌, length, ◌∙◌, ap, arith}
use Rattle.move_journal.specs.Groups.{GroupState, IsGroup, grants_in}
use Rattle.move_journal.proofs.Entries.{empty_group}
use Rattle.move_journal.proofs.group.Group.clear.Goals as goal

empty : (c : goal.After-push_reserved)
    → (grants_in c.push_reserved.new.self.items ≡ []) × IsGroup c.self.inside.most c.push_reserved.new.self
empty c =
    empty_group c.self.inside.most c.push_reserved.new.self c.self.invariant.bound
    (c.push_reserved.ensures.items ∙ ap (λ (l : List (List ℕ)). l ++ replicate 17 0 ∷ []) c.clear.ensures.items)
    (omega (arith, c.self.invariant.room, c.clear.ensures.capacity, c.push_reserved.ensures.capacity))

pub invariant_of-self : goal.invariant_of-self
invariant_of-self c = (empty c).1

pub returns-clause-grants : goal.returns-clause-grants
returns-clause-grants c = (empty c).0

pub returns-clause-spare : goal.returns-clause-spare
returns-clause-spare c =
    omega (
      arith,
      ap length (empty c).0,
      c.self.invariant.few,
      ap (λ (s : GroupState). s.spare) c.self.view_is,
      ap (λ (s : GroupState). length s.grants) c.self.view_is,
    )
