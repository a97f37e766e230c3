-- Where a history holds a halt: it stands last in a legal one.
use Rattle.std.specs.Prelude.{Some, None, ◌||◌}
use Rattle.std.proofs.Common.{◌≡◌, Bool, true, false, cond, Option, List, [], ◌∷◌, ◌++◌, refl, sym, ap, ◌∙◌}
use Rattle.std.proofs.lemmas.Bool.{true≢false}
use Rattle.std.proofs.lemmas.Option.{same_Some}
use Rattle.cell_base.specs.declared.cells.Cell.{Cell}
use Rattle.cell_base.specs.declared.requests.Part.{Part}
use Rattle.cell_base.specs.declared.requests.Told.{Told}
use Rattle.cell_base.specs.declared.requests.Told.TheVariants.{Answered, Halted}
use Rattle.cell_base.specs.declared.shifts.Entry.{Entry}
use Rattle.cell_base.specs.Histories.{IsLegal, IsToldRightly, state_after_entry, was_halted}
use Rattle.cell_base.specs.Scripts.{holds_halt}
use Rattle.durable_cell.specs.Asked.{halted_in}

pub unhalted : (entries : List Entry) → halted_in entries ≡ None → holds_halt entries ≡ false
unhalted [] none = refl
unhalted (e ∷ es) none = by_test (was_halted e.told) none (λ later. unhalted es later)
  where
    by_test : (halt : Bool) → cond halt (Some e) (halted_in es) ≡ None → (halted_in es ≡ None → holds_halt es ≡ false)
        → (halt || holds_halt es) ≡ false
    by_test true none later = absurd (cc)
    by_test false none later = later none

pub halts : (entries : List Entry) (last : Entry) → halted_in entries ≡ Some last → holds_halt entries ≡ true
halts [] last is = absurd (cc)
halts (e ∷ es) last is = by_test (was_halted e.told) is (λ later. halts es last later)
  where
    by_test : (halt : Bool) → cond halt (Some e) (halted_in es) ≡ Some last → (halted_in es ≡ Some last → holds_halt es ≡ true)
        → (halt || holds_halt es) ≡ true
    by_test true is later = refl
    by_test false is later = later is

-- what no entry halted has none that halted
pub none_halted : (entries : List Entry) → holds_halt entries ≡ false → halted_in entries ≡ None
none_halted entries none = by_found (halted_in entries) refl
  where
    by_found : (found : Option Entry) → halted_in entries ≡ found → halted_in entries ≡ None
    by_found None is = is
    by_found (Some last) is = absurd (true≢false (sym (halts entries last is) ∙ none))

-- the entries end in a halt
pub record EndsInHalt (entries : List Entry) (last : Entry) : Type 0 where
  pub first : List Entry
  pub parted : entries ≡ first ++ last ∷ []
  pub halted : last.told ≡ Halted

-- a halt stands last in a legal history
pub ends_in_halt : (cell : Cell) (parts : List Part) (entries : List Entry) (last : Entry) → IsLegal cell parts entries
    → halted_in entries ≡ Some last → EndsInHalt entries last
ends_in_halt cell parts [] last legal is = absurd (cc)
ends_in_halt cell parts (e ∷ es) last legal is =
    by_told e.told refl legal.0 is (λ later. ends_in_halt cell (state_after_entry cell parts e.request e.told) es last legal.1 later)
  where
    by_told : (told : Told) → e.told ≡ told → IsToldRightly cell parts e.request told es
        → cond (was_halted told) (Some e) (halted_in es) ≡ Some last → (halted_in es ≡ Some last → EndsInHalt es last)
        → EndsInHalt (e ∷ es) last
    by_told (Answered reply) told right is later =
        let ends = later is in
        record { first = e ∷ ends.first; parted = ap (λ (xs : List Entry). e ∷ xs) ends.parted; halted = ends.halted }
    by_told Halted told right is later =
        let same : e ≡ last = same_Some e last is in
        record {
          first = [];
          parted = (λ i. same i ∷ right.1 i);
          halted = ap (λ (x : Entry). x.told) (sym same) ∙ told;
        }
