-- The entry takes the place of the closed gate, and another closed gate comes after it.
use Rattle.std.proofs.Common.{◌≡◌, ℕ, ◌-◌, ◌<◌, List, [], ◌∷◌, ◌++◌, length, set, sym, ◌∙◌, ap, subst, arith, length-append}
use Rattle.std.specs.List.{AllByRecursion}
use Rattle.cell_base.specs.declared.shifts.Grant.{Grant}
use Rattle.entry_codec.specs.Decoding.{grant_of}
use Rattle.journal_format.specs.Journals.{IsReadAgain}
use Rattle.journal_format.proofs.Fronts.{each-append}
use Rattle.move_journal.specs.Groups.{GroupState, entries_of, grants_in}
use Rattle.move_journal.proofs.Entries.{grants_in-entries_of, length-entries_of, pushed}
use Rattle.move_journal.proofs.group.Group.push.Goals as goal

module _ (c : goal.After-self-1) where
  abbrev old : List Grant
  old = grants_in c.self.inside.entries.items

  abbrev more : List Grant
  more = old ++ c.args.grant.now ∷ []

  read : AllByRecursion IsReadAgain more
  read = each-append old (c.args.grant.now ∷ []) c.self.invariant.are_read
      (ap grant_of (sym c.encode.ensures.record) ∙ c.encode.ensures.read_back, tt)

  abbrev now : List (List ℕ)
  now = set c.push_reserved.new.self.items (c.len-last.result - 1) c.with_gate.result

  entries_now : now ≡ entries_of more
  entries_now = pushed c.self.inside.entries.items now _ c.with_gate.result old c.args.grant.now c.self.invariant.entries_are
      (omega (arith, c.len-last.ensures, ap length c.self.invariant.entries_are, length-entries_of old))
      (c.with_gate.ensures ∙ ap (λ l. 1 ∷ l) c.encode.ensures.record)
      (ap (λ (l : List (List ℕ)). set l (c.len-last.result - 1) c.with_gate.result) c.push_reserved.ensures.items)

  grants_now : grants_in now ≡ more
  grants_now = ap grants_in entries_now ∙ grants_in-entries_of more read

  spare : 0 < c.self.inside.most - length old
  spare = subst (λ (s : GroupState). 0 < s.spare) (sym c.self.view_is) c.requires.room

pub invariant_of-self : goal.invariant_of-self
invariant_of-self c = record {
  few = omega (arith, ap length (grants_now c), length-append (old c) (c.args.grant.now ∷ []), spare c);
  bound = c.self.invariant.bound;
  entries_are = entries_now c ∙ sym (ap entries_of (grants_now c));
  are_read = subst (AllByRecursion IsReadAgain) (sym (grants_now c)) (read c);
  room = omega (arith, c.self.invariant.room, c.push_reserved.ensures.capacity);
}

pub returns-clause-grants : goal.returns-clause-grants
returns-clause-grants c = grants_now c ∙ ap (λ (s : GroupState). s.grants ++ c.args.grant.now ∷ []) c.self.view_is

pub returns-clause-spare : goal.returns-clause-spare
returns-clause-spare c =
    omega (
      arith,
      ap length (grants_now c),
      length-append (old c) (c.args.grant.now ∷ []),
      spare c,
      ap (λ (s : GroupState). s.spare) c.self.view_is,
    )
