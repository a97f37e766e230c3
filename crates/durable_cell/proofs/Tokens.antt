-- A value of recalled grants has no bytes and owns nothing, so that one can be made with any list.
use Rattle.atomic_table.proofs.Names.{[], ◌∷◌, refl, List, Val, vstruct, vnil, of_list, emp, ent, sem, Logic, Ura, makes_shadow}
use Rattle.cell_base.specs.declared.shifts.Grant.{Grant}
use Rattle.durable_cell.specs.contracts.recalled.Recalled as recalled

-- what the machine holds of it
abbrev pub token : Val
token = vstruct (of_list (vstruct vnil ∷ []))

-- what contracts see of it
abbrev pub remembering : List Grant → recalled.the_row.Denot
remembering grants = record { marker = record {}; items = grants }

pub made : {M : Type 1} {𝓤 : Ura M} (𝓛 : Logic 𝓤) (grants : List Grant)
    → ent 𝓤 (emp 𝓤) (sem 𝓛 (recalled.the_row.own_val (remembering grants) (token ∷ [])))
made 𝓛 grants = makes_shadow 𝓛 (recalled.the_row.own_val (remembering grants) (token ∷ []))
    ((λ vss. (tt, ((λ uss. (tt, tt)), tt))), tt) (((vstruct vnil ∷ [], tt), (refl, ((tt, (refl, tt)), tt))), tt)
