-- A durable cell in which nothing was decided yet.
use Rattle.std.proofs.Common.{◌≡◌, Option, Some, None, List, [], ◌∷◌, map, refl, ap, ◌∙◌}
use Rattle.std.specs.Option.{option_map}
use Rattle.cell_base.specs.declared.shifts.Entry.{Entry}
use Rattle.cell_base.specs.Histories.{granted_entries}
use Rattle.durable_cell.specs.Asked.{halted_in}
use Rattle.durable_cell.specs.DurableState.{DurableState}
use Rattle.durable_cell.specs.Kept.{KeepsHistory, asked_by, asked_in}

nothing_mapped : {A B : Type 0} (f : A → B) (xs : List A) → map f xs ≡ [] → xs ≡ []
nothing_mapped f [] is = refl
nothing_mapped f (x ∷ xs) is = absurd (cc)

none_mapped : {A B : Type 0} (f : A → B) (x : Option A) → option_map f x ≡ None → x ≡ None
none_mapped f None is = refl
none_mapped f (Some x) is = absurd (cc)

module _ {D : Type 0} (durable : DurableState D) (keeps : KeepsHistory durable) (none : durable.history ≡ []) where
  -- nothing was added
  pub none_added : durable.added ≡ []
  none_added =
      nothing_mapped asked_by durable.added (keeps.added ∙ ap (λ (es : List Entry). map asked_in (granted_entries es)) none)

  -- and no writing has failed
  pub none_unsure : durable.unsure ≡ None
  none_unsure =
      none_mapped asked_by durable.unsure (keeps.unsure ∙ ap (λ (es : List Entry). option_map asked_in (halted_in es)) none)
