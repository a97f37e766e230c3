-- What the table says of the journal of a command is what its walk does: so of each, with no line for it here.
use Rattle.std.specs.Prelude.{MatchOption, ⊤}
use Rattle.std.proofs.Common.{◌≡◌, List}
use Rattle.cell_base.specs.declared.shifts.Grant.{Grant}
use Rattle.cell_walks.specs.Promises.{OpensNone, OpensOnce}
use Rattle.cell_walks.specs.Walks.{Answers, Opens, Purpose, Tests, Walk}
use Rattle.command_words.specs.Words.{Task, Solo, journal_of}
use Rattle.cell_program.specs.Walks.{walk_of}

-- each journal that it opens is opened for this
abbrev OpensFor : Purpose → Walk → Type 0
OpensFor purpose (Tests test next) = (value : test.Value) → OpensFor purpose (next value)
OpensFor purpose (Opens journal next) = (journal.purpose ≡ purpose) × ((grants : List Grant) → OpensFor purpose (next grants))
OpensFor purpose (Answers allows) = ⊤

pub as_told : (task : Task) → MatchOption (journal_of task) (OpensNone (walk_of task)) (λ journal. OpensFor journal.purpose (walk_of task))
as_told (Solo cell shift) = assumption
as_told task = assumption

-- and it opens one at most
pub one_journal : (task : Task) → OpensOnce (walk_of task)
one_journal (Solo cell shift) = assumption
one_journal task = assumption
