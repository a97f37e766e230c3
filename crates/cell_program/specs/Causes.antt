-- Why a command ends with each status before it answers.
use Rattle.std.specs.Prelude.{◌≡◌, ◌≢◌, ◌⊎◌, ℕ, [], ◌∷◌, ⊤}
use Rattle.outside_io.specs.Causes.{Rose}
use Rattle.outside_io.specs.Puts.{SinkTold, TookAll}
use Rattle.cell_walks.specs.Observed.{Observed, shown}
use Rattle.cell_walks.specs.Promises.{HasFailedReading, Refuses}
use Rattle.cell_walks.specs.Walks.{Walk}
use Rattle.cell_walks.specs.declared.early_end.Refusal.{Refusal}
use Rattle.cell_walks.specs.declared.early_end.Subject.{Subject}
use Rattle.cell_walks.specs.declared.early_end.Subject.TheVariants.{Words, Cell, Input, Journal, Command}
use Rattle.command_words.specs.Words.{Task, Follow}
use Rattle.cell_program.specs.Walks.{walk_of}

-- what is read is refused so, at the first test of the walk that it doesn't pass, and the line of the fault was taken
abbrev pub IsRefusedFor : Observed → SinkTold → Walk → Subject → Type 0
IsRefusedFor seen sink walk subject =
    (refusal : Refusal) × (refusal.subject ≡ subject) × Refuses (shown seen) walk refusal × TookAll sink (refusal.line ∷ [])

-- the one command that may refuse in an answer: a frame, after those that it has taken
abbrev pub IsFollow : Task → Type 0
IsFollow (Follow cell frames journal) = ⊤
IsFollow task = ⊥

pub record Causes (seen : Observed) (sink : SinkTold) (task : Task) (number : ℕ) : Type 0 where
  -- Status 2 comes only where a word of the command is refused.
  pub words : number ≡ 2 → IsRefusedFor seen sink (walk_of task) Words
  -- Status 3 comes only where the files' count of faults rose, and never over sound files that hold what the command asks for.
  pub reading : number ≡ 3 → HasFailedReading seen (walk_of task)
  -- Statuses 4, 5 and 6 come only where a cell file, another file or a word, and a journal are refused.
  pub cell : number ≡ 4 → IsRefusedFor seen sink (walk_of task) Cell
  pub input : number ≡ 5 → IsRefusedFor seen sink (walk_of task) Input
  pub journal : number ≡ 6 → IsRefusedFor seen sink (walk_of task) Journal
  -- Status 10 comes only where what was read stands for something that can't be done, or a frame of `follow` is refused.
  pub command : number ≡ 10 → IsRefusedFor seen sink (walk_of task) Command ⊎ IsFollow task
  -- Status 7 comes only where the disk's count of faults rose.
  pub device : number ≡ 7 → Rose seen.disk.faults seen.disk.faults_after
  -- Status 8 comes exactly where the sink failed.
  pub sink_failed : number ≡ 8 → Rose sink.faults sink.faults_after
  pub sink_served : number ≢ 8 → sink.faults_after ≡ sink.faults
