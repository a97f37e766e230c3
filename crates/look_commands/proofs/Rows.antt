-- A journal of a small cell looked into: its record, and where the parts stand.
use Rattle.std.specs.Prelude.{codes}
use Rattle.std.specs.Fmt.{digits}
use Rattle.std.specs.List.{flat_map}
use Rattle.std.proofs.Common.{◌≡◌, ℕ, true, List, [], ◌∷◌, ◌++◌, map, refl}
use Rattle.cell_base.specs.declared.cells.Cell.{Cell}
use Rattle.cell_base.specs.declared.cells.Step.{Step}
use Rattle.cell_base.specs.declared.requests.Part.{Part}
use Rattle.cell_base.specs.declared.requests.Request.{Request}
use Rattle.cell_base.specs.declared.requests.Request.TheVariants.{Load, Process, Move}
use Rattle.cell_base.specs.declared.shifts.Grant.{Grant}
use Rattle.cell_base.specs.Histories.{replay}
use Rattle.record_text.specs.Records.{text_of_block}
use Rattle.look_commands.specs.Grants.{block_of_grants}
use Rattle.look_commands.specs.Parts.{parts_lines}

abbrev works : ℕ → Step
works r = record { on = record { 0 = r }; works = true }

-- two machines of one unit in both orders: A goes from the first to the second, and Z from the second to the first
abbrev cell : Cell
cell = record {
  resources = record { name = codes "M1"; capacity = 1; order = 1 } ∷ record { name = codes "M2"; capacity = 1; order = 2 } ∷ [];
  types =
      record { name = codes "A"; route = works 0 ∷ works 1 ∷ []; next = (1 ∷ []) ∷ [] ∷ [] }
      ∷ record { name = codes "Z"; route = works 1 ∷ works 0 ∷ []; next = (1 ∷ []) ∷ [] ∷ [] } ∷ [];
}

abbrev grant : ℕ → ℕ → Request → Grant
grant shift session request = record { shift = shift; session = session; request = request }

-- part 7 was loaded and worked on in one shift, and moved on in another
abbrev grants : List Grant
grants =
    grant 1 1 (Load (record { 0 = 7 }) (record { 0 = 0 })) ∷ grant 1 2 (Process (record { 0 = 0 }))
    ∷ grant 2 1 (Move (record { 0 = 7 }) 0) ∷ []

-- a line with its newline
abbrev line : List ℕ → List ℕ
line text = text ++ 10 ∷ []

record_row : text_of_block cell (block_of_grants cell grants)
    ≡ flat_map line
    (codes "shift 0 after 0"
    ∷ codes "1 load 7 A granted"
    ∷ codes "2 process M1 granted"
    ∷ codes "1 move 7 granted"
    ∷ codes "left 1"
    ∷ codes "plan 2"
    ∷ codes "process M2"
    ∷ codes "unload 7"
    ∷ [])
unfolding digits
record_row = refl

parts_row : parts_lines cell (replay cell grants)
    ≡ map line
    (codes "resource M1 holds 0 of 1 counted 0 of 1"
    ∷ codes "resource M2 holds 1 of 1 counted 1 of 1"
    ∷ codes "part 7 A 1 waiting"
    ∷ [])
unfolding digits
parts_row = refl

-- a part that is done, and is counted where it has yet to go
abbrev done : Part
done = record { job = record { 0 = 7 }; kind = record { 0 = 0 }; place = 0; done = true }

counted_row : parts_lines cell (done ∷ [])
    ≡ map line
    (codes "resource M1 holds 1 of 1 counted 1 of 1"
    ∷ codes "part 7 A 0 done"
    ∷ codes "resource M2 holds 0 of 1 counted 1 of 1"
    ∷ [])
unfolding digits
counted_row = refl
