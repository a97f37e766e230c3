-- The entries one after the other, but for the room after the last gate.
use Rattle.std.specs.List.{flat_map}
use Rattle.std.proofs.Common.{ℕ, ◌+◌, ◌*◌, List, length, take, ◌∙◌, ap, arith}
use Rattle.move_journal.specs.Groups.{GroupState, grants_in}
use Rattle.journal_format.specs.Journals.{group_bytes}
use Rattle.move_journal.proofs.Entries.{bytes-entries_of, length-entries_of}
use Rattle.move_journal.proofs.group.Group.bytes.Goals as goal

pub returns-clause-bytes : goal.returns-clause-bytes
returns-clause-bytes c =
    let grants = grants_in c.self.inside.entries.items in
    let items_are = c.as_slice.ensures.value ∙ c.self.invariant.entries_are in
    ap (λ (n : ℕ). take n c.as_flattened-bytes.result.now)
    (omega (arith, c.as_flattened-bytes.ensures.len, ap length items_are, length-entries_of grants))
    ∙ ap (λ (l : List ℕ). take (17 * length grants + 1) l)
    (c.as_flattened-bytes.ensures.value ∙ ap (λ (l : List (List ℕ)). flat_map (λ (entry : List ℕ). entry) l) items_are)
    ∙ bytes-entries_of grants
    ∙ ap (λ (s : GroupState). group_bytes s.grants) c.self.view_is
