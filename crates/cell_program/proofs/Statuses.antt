-- A command answers with status 0 or 1, those that add to a journal also with 7, and `follow` also with 10; so each other status has its
-- cause before the answer.
use Rattle.std.specs.Prelude.{IfSome, ⊤}
use Rattle.std.proofs.Common.{arith, ◌≡◌, ◌⊎◌, inl, inr, ◌∙◌, ap, ℕ, List, subst, sym}
use Rattle.outside_io.specs.Causes.{Rose}
use Rattle.outside_io.specs.Puts.{SinkTold}
use Rattle.cell_base.specs.declared.shifts.Grant.{Grant}
use Rattle.shift_checker.specs.declared.verdict.Verdict.{Verdict}
use Rattle.shift_checker.specs.declared.verdict.Verdict.TheVariants.{Yes, No}
use Rattle.shift_checker.specs.Judging.{judge}
use Rattle.cell_walks.specs.Allowed.{Reached, Unasked, reached_by}
use Rattle.outside_io.specs.Source.{SourceTold}
use Rattle.cell_walks.specs.DiskTold.{DiskTold}
use Rattle.cell_walks.specs.Observed.{Observed}
use Rattle.cell_walks.specs.Outcomes.{Outcome}
use Rattle.cell_walks.specs.Promises.{AnswersFrom, HasFailedReading, IsAnswered, Promises}
use Rattle.cell_walks.specs.Statuses.{status_number, subject_status}
use Rattle.cell_walks.specs.Walks.{Answers, Opens, Tests, Walk}
use Rattle.cell_walks.specs.declared.early_end.Subject.{Subject}
use Rattle.cell_walks.specs.declared.early_end.Subject.TheVariants.{Words, Cell, Input, Journal, Command}
use Rattle.cell_walks.specs.declared.status.Status.{Status}
use Rattle.cell_walks.specs.declared.status.Status.TheVariants.{CellRefused, CommandRefused, Done, Denied, DeviceFault, InputRefused}
use Rattle.cell_walks.specs.declared.status.Status.TheVariants.{JournalRefused, NoCommand, NoMemory, ReadFault, SinkFault}
use Rattle.cell_walks.proofs.Promising.{no_sink_fault}
use Rattle.cell_walks.proofs.Telling.{failed_early, one_status}
use Rattle.cell_commands.specs.Check.{verdict_status}
use Rattle.standby_commands.specs.Follow.{EndsFollowing, Followed, HaltedAt, RefusedAt}
use Rattle.standby_commands.specs.FollowTold.{IsFollowTold, ToldHalted, ToldRefused, ToldWhole}
use Rattle.standby_commands.proofs.FollowTold.{follow_told}
use Rattle.carry_commands.proofs.BeginTold.{begin_told}
use Rattle.cell_commands.proofs.DrainTold.{drain_told}
use Rattle.run_command.proofs.RunTold.{run_told}
use Rattle.cell_base.specs.declared.cells.Cell.{Cell as OfCell}
use Rattle.cell_program.specs.Causes.{Causes, IsFollow, IsRefusedFor}
use Rattle.command_words.specs.Words.{Task, Run, Drain, Check, Begin, Follow}
use Rattle.cell_program.specs.Walks.{walk_of}

-- the commands that add to their journal
abbrev Adds : Task → Type 0
Adds (Run cell shift journal) = ⊤
Adds (Drain cell journal) = ⊤
Adds (Begin cell start journal) = ⊤
Adds (Follow cell frames journal) = ⊤
Adds task = ⊥

-- a status that an answer of a command has
abbrev IsAnswers : Task → Status → Type 0
IsAnswers task Done = ⊤
IsAnswers task Denied = ⊤
IsAnswers task DeviceFault = Adds task
IsAnswers task CommandRefused = IsFollow task
IsAnswers task status = ⊥

-- each answer of a walk has such a status
abbrev AnswersSo : Task → Walk → Type 1
AnswersSo task (Tests test next) = (value : test.Value) → AnswersSo task (next value)
AnswersSo task (Opens journal next) = (grants : List Grant) → AnswersSo task (next grants)
AnswersSo task (Answers allows) = (input : SourceTold) (outcome : Outcome) → allows input outcome → IsAnswers task outcome.status

answered_so : (task : Task) (seen : Observed) (outcome : Outcome) (reached : Reached) (walk : Walk) → AnswersSo task walk
    → AnswersFrom seen outcome reached walk → IsAnswers task outcome.status
answered_so task seen outcome reached (Tests test next) each (value, shows, answers) =
    answered_so task seen outcome reached (next value) (each value) answers
answered_so task seen outcome reached (Opens journal next) each (grants, opened, answers) =
    answered_so task seen outcome (reached_by journal.purpose journal.text grants) (next grants) (each grants) answers
answered_so task seen outcome reached (Answers allows) each answers = each seen.input outcome answers.0

-- ---- the commands

verdict_so : (task : Task) (verdict : Verdict) → IsAnswers task (verdict_status verdict)
verdict_so task Yes = tt
verdict_so task (No line why) = tt

-- an outcome that is this one
so : (task : Task) (outcome this : Outcome) → outcome ≡ this → IsAnswers task this.status → IsAnswers task outcome.status
so task outcome this is that = subst (λ (o : Outcome). IsAnswers task o.status) (sym is) that

-- a `follow` was taken whole, refused, or halted
follow_so : (task : Task) → IsFollow task → Adds task → (cell : OfCell) (opening : List Grant) (frames : List (List ℕ)) (outcome : Outcome)
    → EndsFollowing cell opening frames outcome → IsAnswers task outcome.status
follow_so task may adds cell opening frames outcome (Followed is) = subst (IsAnswers task) (sym is.status) tt
follow_so task may adds cell opening frames outcome (RefusedAt is) = subst (IsAnswers task) (sym is.status) may
follow_so task may adds cell opening frames outcome (HaltedAt is) = subst (IsAnswers task) (sym is.status) adds

answers_of : (task : Task) → AnswersSo task (walk_of task)
answers_of (Check cell record_file) =
    λ held blocks input outcome is. so (Check cell record_file) outcome _ is (verdict_so (Check cell record_file) (judge held.cell blocks))
answers_of (Follow cell frames journal) = λ held list grants had input outcome is.
    follow_so (Follow cell frames journal) tt tt held.cell grants list outcome is
answers_of task = grind (arith, so)

-- the writing of a grant failed only where the disk did
by_follow : (disk : DiskTold) (cell : OfCell) (text : List ℕ) (frames : List (List ℕ)) (opening : List Grant) (outcome : Outcome)
    → DeviceFault ≡ outcome.status → IsFollowTold disk cell text frames opening outcome → Rose disk.faults disk.faults_after
by_follow disk cell text frames opening outcome seven (ToldWhole told) = let both = seven ∙ told.is.status in absurd (cc)
by_follow disk cell text frames opening outcome seven (ToldRefused told) = let both = seven ∙ told.is.status in absurd (cc)
by_follow disk cell text frames opening outcome seven (ToldHalted told) = told.cause

halted_by : (seen : Observed) (outcome : Outcome) → IfSome seen.disk.reads seen.disk.leaves → DeviceFault ≡ outcome.status → (task : Task)
    → IsAnswered seen (walk_of task) outcome → Rose seen.disk.faults seen.disk.faults_after
halted_by seen outcome now seven (Run cell shift journal) answers = elim (run_told seen cell shift outcome now answers) [
  | inl whole ↦ let both = seven ∙ whole.told.status in absurd (cc)
  | inr halted ↦ halted.told.cause
]
halted_by seen outcome now seven (Drain cell journal) answers = elim (drain_told seen cell outcome now answers) [
  | inl whole ↦ let both = seven ∙ whole.told.status in absurd (cc)
  | inr halted ↦ halted.told.cause
]
halted_by seen outcome now seven (Begin cell start journal) answers = elim (begin_told seen cell start outcome now answers) [
  | inl whole ↦ let both = seven ∙ whole.told.status in absurd (cc)
  | inr halted ↦ halted.told.cause
]
halted_by seen outcome now seven (Follow cell frames journal) answers =
    let from = follow_told seen cell frames outcome now answers in
    by_follow seen.disk from.held.cell from.held.text from.list from.opening outcome seven from.told
halted_by seen outcome now seven task answers =
    absurd (subst (IsAnswers task) (sym seven) (answered_so task seen outcome Unasked (walk_of task) (answers_of task) answers))

module _ (seen : Observed) (sink : SinkTold) (task : Task) (status : Status) (now : IfSome seen.disk.reads seen.disk.leaves)
    (p : Promises seen sink (walk_of task) status) where
  -- with another status it did not answer
  not_answered : (status ≡ SinkFault → ⊥) → (IsAnswers task status → ⊥) → IsAnswered seen (walk_of task) p.outcome → ⊥
  not_answered taken none answers =
      none (subst (IsAnswers task) (sym (p.whole taken).0)
      (answered_so task seen p.outcome Unasked (walk_of task) (answers_of task) answers))

  -- a status of refusals that no answer tells comes only where a test on the way is refused so, and its line was taken
  refused_only : (subject : Subject) → (IsAnswers task (subject_status subject) → ⊥) → status ≡ subject_status subject
      → IsRefusedFor seen sink (walk_of task) subject
  refused_only subject none is = elim (p.refused subject is) [
    | inl refused ↦ refused
    | inr answers ↦ absurd (not_answered (λ eight. no_sink_fault subject (sym is ∙ eight))
        (λ answer. none (subst (IsAnswers task) is answer)) answers)
  ]

  -- status 3 comes only where a read failed, and never of sound files that hold what the command asks for
  read_fault : status ≡ ReadFault → HasFailedReading seen (walk_of task)
  read_fault is = elim (p.read_fault is) [
    | inl failed ↦ failed
    | inr answers ↦ absurd (not_answered (λ eight. absurd (let both = sym is ∙ eight in cc))
        (λ answer. absurd (subst (IsAnswers task) is answer)) answers)
  ]

  -- a command is refused by a test, or in an answer where that may be
  refused_or_answered : status ≡ CommandRefused → IsRefusedFor seen sink (walk_of task) Command ⊎ IsFollow task
  refused_or_answered is = elim (p.refused Command is) [
    | inl refused ↦ inl refused
    | inr answers ↦ inr (subst (IsAnswers task) (sym (p.whole (λ eight. absurd (let both = sym is ∙ eight in cc))).0 ∙ is)
        (answered_so task seen p.outcome Unasked (walk_of task) (answers_of task) answers))
  ]

  failed : status ≡ DeviceFault → Rose seen.disk.faults seen.disk.faults_after
  failed is = elim (failed_early seen sink (walk_of task) status p is) [
    | inl early ↦ early.2
    | inr answered ↦ halted_by seen p.outcome now answered.1 task answered.0
  ]

  pub causes : (number : ℕ) → number ≡ status_number status → Causes seen sink task number
  causes number same = record {
    words = λ is. refused_only Words (λ answer. answer) (status_is NoCommand is);
    reading = λ is. read_fault (status_is ReadFault is);
    cell = λ is. refused_only Cell (λ answer. answer) (status_is CellRefused is);
    input = λ is. refused_only Input (λ answer. answer) (status_is InputRefused is);
    journal = λ is. refused_only Journal (λ answer. answer) (status_is JournalRefused is);
    command = λ is. refused_or_answered (status_is CommandRefused is);
    device = λ is. failed (status_is DeviceFault is);
    sink_failed = λ is. (p.cut (status_is SinkFault is)).cause;
    sink_served = λ other. (p.whole (λ is. other (same ∙ ap status_number is))).2;
  }
    where
      status_is : (this : Status) → number ≡ status_number this → status ≡ this
      status_is this is = one_status status this (sym same ∙ is)

-- ---- numbers

-- a command that was done, or for which memory was wanting
pub numbered : (number : ℕ) (status : Status) → number ≡ status_number status → (status ≡ Done) ⊎ (status ≡ NoMemory)
    → (number ≡ 0) ⊎ (number ≡ 9)
numbered number status is (inl done) = inl (is ∙ ap status_number done)
numbered number status is (inr starved) = inr (is ∙ ap status_number starved)
