-- What a `follow` promises beside what every call does, by its exit status.
use Rattle.std.specs.Prelude.{◌≡◌, ◌⊎◌, ℕ, List}
use Rattle.outside_io.specs.Puts.{SinkTold}
use Rattle.cell_walks.specs.Observed.{Observed}
use Rattle.cell_walks.specs.Promises.{Accepts, DiskServes, ReadsAll, TakesAll}
use Rattle.standby_commands.specs.Follow.{follow}
use Rattle.standby_commands.specs.FollowTold.{AreOfOneList}

-- where frames of one list of grants are followed, nothing is refused and nothing outside fails, the number is 0, or 9 for want of memory
abbrev pub FollowsAll : Observed → SinkTold → List ℕ → List ℕ → ℕ → Type 0
FollowsAll seen sink cell frames number =
    Accepts seen (follow cell frames) → ReadsAll seen (follow cell frames) → DiskServes seen (follow cell frames) → TakesAll sink
    → AreOfOneList seen cell frames → (number ≡ 0) ⊎ (number ≡ 9)
