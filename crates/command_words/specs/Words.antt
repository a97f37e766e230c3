-- The commands, one line each in every table: how a command is written, its journal, and which command words are.
use Rattle.std.specs.Prelude.{ℕ, Bool, false, List, [], ◌∷◌, ◌++◌, map, Option, Some, None, codes, if◌then◌else◌}
use Rattle.std.specs.Str.{bytes_eq}
use Rattle.step_text.specs.Words.{joined}
use Rattle.cell_walks.specs.Walks.{Purpose, ToAdd, ToRead}
use Rattle.command_words.specs.declared.commands.Command.{Command}
use Rattle.command_words.specs.declared.commands.Command.TheVariants as Written
use Rattle.command_words.specs.declared.commands.Journal.{Journal}
use Rattle.command_words.specs.declared.commands.Journal.TheVariants.{Read, Added}
use Rattle.command_words.specs.declared.served.Served.{Served}

-- a command, with its words
pub data Task : Type 0 where
  Solo : (cell shift : List ℕ) → Task
  Run : (cell shift journal : List ℕ) → Task
  Plan : (cell journal : List ℕ) → Task
  Drain : (cell journal : List ℕ) → Task
  Why : (cell journal step : List ℕ) → Task
  Check : (cell record_file : List ℕ) → Task
  Show : (cell : List ℕ) → Task
  Make : (number : List ℕ) → Task
  Carry : (cell journal other : List ℕ) → Task
  Begin : (cell start journal : List ℕ) → Task
  Hybrid : (cell shift : List ℕ) → Task
  Queue : (cell shift : List ℕ) → Task
  Advise : (cell : List ℕ) → Task
  Arrange : (cell : List ℕ) → Task
  Grants : (cell journal : List ℕ) → Task
  Parts : (cell journal : List ℕ) → Task
  Feed : (cell journal from : List ℕ) → Task
  Follow : (cell frames journal : List ℕ) → Task

-- how it is written
abbrev pub words_of : Task → List (List ℕ)
words_of (Solo cell shift) = codes "solo" ∷ cell ∷ shift ∷ []
words_of (Run cell shift journal) = codes "run" ∷ cell ∷ shift ∷ journal ∷ []
words_of (Plan cell journal) = codes "plan" ∷ cell ∷ journal ∷ []
words_of (Drain cell journal) = codes "drain" ∷ cell ∷ journal ∷ []
words_of (Why cell journal step) = codes "why" ∷ cell ∷ journal ∷ step ∷ []
words_of (Check cell record_file) = codes "check" ∷ cell ∷ record_file ∷ []
words_of (Show cell) = codes "show" ∷ cell ∷ []
words_of (Make number) = codes "make" ∷ number ∷ []
words_of (Carry cell journal other) = codes "carry" ∷ cell ∷ journal ∷ other ∷ []
words_of (Begin cell start journal) = codes "begin" ∷ cell ∷ start ∷ journal ∷ []
words_of (Hybrid cell shift) = codes "hybrid" ∷ cell ∷ shift ∷ []
words_of (Queue cell shift) = codes "queue" ∷ cell ∷ shift ∷ []
words_of (Advise cell) = codes "advise" ∷ cell ∷ []
words_of (Arrange cell) = codes "arrange" ∷ cell ∷ []
words_of (Grants cell journal) = codes "grants" ∷ cell ∷ journal ∷ []
words_of (Parts cell journal) = codes "parts" ∷ cell ∷ journal ∷ []
words_of (Feed cell journal from) = codes "feed" ∷ cell ∷ journal ∷ from ∷ []
words_of (Follow cell frames journal) = codes "follow" ∷ cell ∷ frames ∷ journal ∷ []

-- the name of a journal, and whether it is only read
pub record NamedJournal : Type 0 where
  pub name : List ℕ
  pub purpose : Purpose

-- its journal
abbrev pub journal_of : Task → Option NamedJournal
journal_of (Solo cell shift) = None
journal_of (Run cell shift journal) = Some (record { name = journal; purpose = ToAdd })
journal_of (Plan cell journal) = Some (record { name = journal; purpose = ToRead })
journal_of (Drain cell journal) = Some (record { name = journal; purpose = ToAdd })
journal_of (Why cell journal step) = Some (record { name = journal; purpose = ToRead })
journal_of (Check cell record_file) = None
journal_of (Show cell) = None
journal_of (Make number) = None
journal_of (Carry cell journal other) = Some (record { name = journal; purpose = ToRead })
journal_of (Begin cell start journal) = Some (record { name = journal; purpose = ToAdd })
journal_of (Hybrid cell shift) = None
journal_of (Queue cell shift) = None
journal_of (Advise cell) = None
journal_of (Arrange cell) = None
journal_of (Grants cell journal) = Some (record { name = journal; purpose = ToRead })
journal_of (Parts cell journal) = Some (record { name = journal; purpose = ToRead })
journal_of (Feed cell journal from) = Some (record { name = journal; purpose = ToRead })
journal_of (Follow cell frames journal) = Some (record { name = journal; purpose = ToAdd })

-- each command, with names for its words
abbrev pub every_form : List Task
every_form =
    Solo (codes "CELL") (codes "SHIFT") ∷ Run (codes "CELL") (codes "SHIFT") (codes "JOURNAL") ∷ Plan (codes "CELL") (codes "JOURNAL")
    ∷ Drain (codes "CELL") (codes "JOURNAL") ∷ Why (codes "CELL") (codes "JOURNAL") (codes "STEP") ∷ Check (codes "CELL") (codes "RECORD")
    ∷ Show (codes "CELL") ∷ Make (codes "NUMBER") ∷ Carry (codes "CELL1") (codes "JOURNAL") (codes "CELL2")
    ∷ Begin (codes "CELL") (codes "START") (codes "JOURNAL") ∷ Hybrid (codes "CELL") (codes "SHIFT")
    ∷ Queue (codes "CELL") (codes "SHIFT") ∷ Advise (codes "CELL")
    ∷ Feed (codes "CELL") (codes "JOURNAL") (codes "FROM") ∷ Follow (codes "CELL") (codes "FRAMES") (codes "JOURNAL")
    ∷ Arrange (codes "CELL") ∷ Grants (codes "CELL") (codes "JOURNAL") ∷ Parts (codes "CELL") (codes "JOURNAL") ∷ []

-- with a comma and a space between them
abbrev pub listed : List (List ℕ) → List ℕ
listed [] = []
listed (form ∷ []) = form
listed (form ∷ next ∷ rest) = form ++ codes ", " ++ listed (next ∷ rest)

-- how the command is written that reads its input while it answers, and its journal; it has a top call of its own
abbrev pub serve_words : List ℕ → List ℕ → List (List ℕ)
serve_words cell journal = codes "serve" ∷ cell ∷ journal ∷ []

abbrev pub served_journal : List ℕ → NamedJournal
served_journal journal = record { name = journal; purpose = ToAdd }

-- the commands with their words
abbrev pub usage_text : List ℕ
usage_text =
    codes "usage: "
    ++ listed (map (λ task. joined (words_of task)) every_form ++ joined (serve_words (codes "CELL") (codes "JOURNAL")) ∷ []) ++ 10 ∷ []

-- ---- which command words are

-- what a command asks for
abbrev pub task_in : Command → Task
task_in (Written.Solo cell shift) = Solo cell.now shift.now
task_in (Written.Run cell shift journal) = Run cell.now shift.now journal.now
task_in (Written.Plan cell journal) = Plan cell.now journal.now
task_in (Written.Drain cell journal) = Drain cell.now journal.now
task_in (Written.Why cell journal step) = Why cell.now journal.now step.now
task_in (Written.Check cell record_file) = Check cell.now record_file.now
task_in (Written.Show cell) = Show cell.now
task_in (Written.Make number) = Make number.now
task_in (Written.Carry cell journal other) = Carry cell.now journal.now other.now
task_in (Written.Begin cell start journal) = Begin cell.now start.now journal.now
task_in (Written.Hybrid cell shift) = Hybrid cell.now shift.now
task_in (Written.Queue cell shift) = Queue cell.now shift.now
task_in (Written.Advise cell) = Advise cell.now
task_in (Written.Arrange cell) = Arrange cell.now
task_in (Written.Grants cell journal) = Grants cell.now journal.now
task_in (Written.Parts cell journal) = Parts cell.now journal.now
task_in (Written.Feed cell journal from) = Feed cell.now journal.now from.now
task_in (Written.Follow cell frames journal) = Follow cell.now frames.now journal.now

-- the journal that is named
abbrev pub named : Journal → NamedJournal
named (Read name) = record { name = name.now; purpose = ToRead }
named (Added name) = record { name = name.now; purpose = ToAdd }

-- the commands with these words after the first
abbrev pub with_words : List (List ℕ) → List Task
with_words (a ∷ []) = Show a ∷ Make a ∷ Advise a ∷ Arrange a ∷ []
with_words (a ∷ b ∷ []) =
    Solo a b ∷ Plan a b ∷ Drain a b ∷ Check a b ∷ Hybrid a b ∷ Queue a b ∷ Grants a b ∷ Parts a b ∷ []
with_words (a ∷ b ∷ c ∷ []) =
    Run a b c ∷ Why a b c ∷ Carry a b c ∷ Begin a b c ∷ Feed a b c ∷ Follow a b c ∷ []
with_words words = []

-- whether this is the first word
abbrev pub begins_with : List ℕ → List (List ℕ) → Bool
begins_with verb [] = false
begins_with verb (word ∷ rest) = bytes_eq verb word

-- the first of them that begins with this word
abbrev pub of_verb : List ℕ → List Task → Option Task
of_verb verb [] = None
of_verb verb (task ∷ rest) = if begins_with verb (words_of task) then Some task else of_verb verb rest

-- the command that the words are
abbrev pub task_of : List (List ℕ) → Option Task
task_of [] = None
task_of (verb ∷ words) = of_verb verb (with_words words)

-- how what is served is written
abbrev pub served_words : Served → List (List ℕ)
served_words served = serve_words served.cell.now served.journal.now
