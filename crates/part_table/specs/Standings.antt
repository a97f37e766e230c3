-- Parts in the order of their arrival, each with the resource on which it stands.
use Rattle.std.specs.Prelude.{◌≡◌, ℕ, ◌==◌, Bool, true, not, ◌&&◌, if◌then◌else◌, List, [], ◌∷◌, ◌++◌, map}
use Rattle.std.specs.List.{All, filter, find}
use Rattle.std.specs.Option.{option_map_or}
use Rattle.cell_base.specs.declared.cells.Cell.{Cell}
use Rattle.cell_base.specs.declared.cells.ResId.{ResId}
use Rattle.cell_base.specs.declared.requests.JobId.{JobId}
use Rattle.cell_base.specs.declared.requests.Part.{Part}
use Rattle.cell_base.specs.Stages.{stage_of, resource_at}
use Rattle.cell_base.specs.Policy.{is_of_job}
use Rattle.part_table.specs.declared.standing.Standing.{Standing}

-- what a contract sees of arrivals: the parts as they stand, in their order, how many more may come, and the number of resources
pub record Arrived : Type 0 where
  pub items : List Standing
  pub spare : ℕ
  pub resources : ℕ

-- the parts alone
abbrev pub parts_of : List Standing → List Part
parts_of items = map (λ item. item.part) items

-- the resource that was told of each part is the one of its stage
abbrev pub AreOn : Cell → List Standing → Type 0
AreOn cell items = All (λ (item : Standing). item.on.0 ≡ resource_at cell (stage_of item.part)) items

-- the part is of the job
abbrev pub is_job : JobId → Standing → Bool
is_job job item = is_of_job job item.part

-- the part stands on the resource
abbrev pub is_on : ResId → Standing → Bool
is_on on item = item.on.0 == on.0

-- the part stands on the resource and is not done
abbrev pub is_waiting : ResId → Standing → Bool
is_waiting on item = not item.part.done && is_on on item

-- the parts of other jobs
abbrev pub without_job : List Standing → JobId → List Standing
without_job items job = filter (λ item. not (is_job job item)) items

-- the part of the job at another place and on its resource, after all others
abbrev pub advanced : List Standing → JobId → ℕ → Bool → ResId → List Standing
advanced items job place done on =
    option_map_or (λ (item : Standing). without_job items job ++ (record {
      part = record item.part { place = place; done = done };
      on =
          on;
    }) ∷ [])
    (find (is_job job) items) items

-- the part of the job is done, and keeps its place in the list
abbrev pub finish : JobId → Standing → Standing
finish job item = if is_job job item then record item { part = record item.part { done = true } } else item

-- the same in the list
abbrev pub finished : List Standing → JobId → List Standing
finished items job = map (finish job) items
