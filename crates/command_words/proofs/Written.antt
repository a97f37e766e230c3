-- Words are one command, or what is served, or neither.
use Rattle.std.specs.Prelude.{IfNone}
use Rattle.std.proofs.Common.{◌≡◌, ℕ, List, Option, Some, None, refl, sym, ap, ◌∙◌}
use Rattle.command_words.specs.Words.{Task, Solo, serve_words, task_of, words_of}
use Rattle.command_words.specs.declared.commands.Command.{Command}

-- a command that is written is decided: so is each
pub decides : (task : Task) → task_of (words_of task) ≡ Some task
decides (Solo cell shift) = refl
decides task = refl

-- words are written so of one command
pub one_task : (one other : Task) → words_of one ≡ words_of other → one ≡ other
one_task one other same =
    let both : Some one ≡ Some other = sym (decides one) ∙ ap task_of same ∙ decides other in
    let is : one ≡ other = cc in
    is

-- words that decide none are none
pub undecided : (words : List (List ℕ)) → task_of words ≡ None → (task : Task) → words_of task ≡ words → ⊥
undecided words none task so = let both : Some task ≡ None = sym (decides task) ∙ ap task_of so ∙ none in absurd (cc)

pub unwritten : (result : Option Command) (words : List (List ℕ)) → IfNone result (task_of words ≡ None)
    → IfNone result ((task : Task) → words_of task ≡ words → ⊥)
unwritten None words none = undecided words none
unwritten (Some command) words none = tt

-- the cell and the journal of what is served are told by the words
pub one_cell : (a b cell journal : List ℕ) → serve_words a b ≡ serve_words cell journal → a ≡ cell
one_cell a b cell journal same = cc

pub one_journal : (a b cell journal : List ℕ) → serve_words a b ≡ serve_words cell journal → b ≡ journal
one_journal a b cell journal same = cc

-- no command is written so
pub no_task : (cell journal : List ℕ) (task : Task) → words_of task ≡ serve_words cell journal → ⊥
no_task cell journal task so = undecided (serve_words cell journal) refl task so
