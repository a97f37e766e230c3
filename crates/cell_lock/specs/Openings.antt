-- What a lock was opened with.
use Rattle.std.specs.Prelude.{◌≡◌, ℕ, ◌≤◌, ◌<◌, ◌⊎◌, Option, None, Some, IfSome, option_and_then, List, [], length}
use Rattle.std.specs.Option.{option_map_or}
use Rattle.cell_base.specs.declared.requests.Part.{Part}
use Rattle.cell_base.specs.Histories.{IsLegal, grants, replay}
use Rattle.durable_cell.specs.Asked.{unsure_grant}
use Rattle.durable_cell.specs.DurableState.{DurableState}
use Rattle.cell_lock.specs.declared.board.Opening.{Opening}

-- a lock over this durable cell, for a shift and so many passes
abbrev pub opening_of : {D : Type 0} → DurableState D → ℕ → ℕ → Opening D
opening_of durable shift passes = record {
  cell = durable.cell;
  text = durable.text;
  entry = Some durable.entry;
  found = Some durable.found;
  grants = durable.opening;
  limit = durable.limit;
  shift = shift;
  passes = passes;
}

-- the opening of a seat that has nothing more to do with a lock
abbrev pub nothing_opened : {D : Type 0} → Opening D
nothing_opened = record {
  cell = record { resources = []; types = [] };
  text = [];
  entry = None;
  found = None;
  grants = [];
  limit = 0;
  shift = 0;
  passes = 0;
}

-- the parts after the grants of the opening
abbrev pub first_parts : {D : Type 0} → Opening D → List Part
first_parts opening = replay opening.cell opening.grants

-- the disk's clock when the disk was found
abbrev pub first_moment : {D : Type 0} → (D → ℕ) → Opening D → ℕ
first_moment moment opening = option_map_or moment opening.found 0

-- where the disk of the opening tells its bytes, P holds
abbrev pub WhereTold : {D : Type 0} → (D → Option (List ℕ)) → Opening D → Type 0 → Type 0
WhereTold reads_as opening P = IfSome (option_and_then reads_as opening.entry) (λ _. P)

-- a number of no pass
abbrev pub Outside : {D : Type 0} → Opening D → ℕ → Type 0
Outside opening number = (number ≡ 0) ⊎ (opening.passes < number)

-- The durable cell is the one with which the lock was opened, after a legal history within its limit; what it added are the grants of
-- this history in the shift of the lock, and what is unsure is its halt.
pub record Fits {D : Type 0} (opening : Opening D) (durable : DurableState D) : Type 0 where
  pub same : opening_of durable opening.shift opening.passes ≡ opening
  pub legal : IsLegal opening.cell (first_parts opening) durable.history
  pub short : length durable.history ≤ opening.limit
  pub added : durable.added ≡ grants opening.shift durable.history
  pub unsure : durable.unsure ≡ unsure_grant opening.shift durable.history
