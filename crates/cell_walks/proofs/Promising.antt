-- Every walk promises this of an end that it allows.
use Rattle.std.specs.Prelude.{IfSome}
use Rattle.std.proofs.Common.{◌≡◌, ◌⊎◌, inl, inr, ◌+◌, [], ◌∷◌, ◌++◌, length, take, sym, ap, subst, ◌∙◌, refl}
use Rattle.std.proofs.Math.Seq.{take-append-add}
use Rattle.outside_io.specs.Causes.{Rose}
use Rattle.outside_io.specs.Puts.{SinkTold, TookAll, TookSome}
use Rattle.outside_io.specs.PutLaws.{some_is_prefix}
use Rattle.cell_walks.specs.Allowed.{Unasked}
use Rattle.cell_walks.specs.Observed.{Observed, certain, shown}
use Rattle.cell_walks.specs.Outcomes.{Cut, Outcome, Whole, early}
use Rattle.cell_walks.specs.Promises.{Accepts, AreThere, DiskServes, Ends, HasAnswered, HasFailedReading, IsAnswered}
use Rattle.cell_walks.specs.Promises.{IsCut, IsEndedBy, IsRefused, OpensNone, Promises, ReadsAll, Refuses, TakesAll}
use Rattle.cell_walks.specs.Promises.{UnlessOutside, ReadFailed, DiskFailed, MemoryFailed, Decided}
use Rattle.cell_walks.specs.Statuses.{IsTaken, early_line, early_status, subject_status}
use Rattle.cell_walks.specs.Walks.{Walk}
use Rattle.cell_walks.specs.declared.early_end.EarlyEnd.{EarlyEnd}
use Rattle.cell_walks.specs.declared.early_end.EarlyEnd.TheVariants.{NotRead, DeviceFailed, WantOfMemory, Refused}
use Rattle.cell_walks.specs.declared.early_end.Refusal.{Refusal}
use Rattle.cell_walks.specs.declared.early_end.Subject.{Subject}
use Rattle.cell_walks.specs.declared.early_end.Subject.TheVariants.{Words, Cell, Input, Journal, Command}
use Rattle.cell_walks.specs.declared.status.Status.{Status}
use Rattle.cell_walks.specs.declared.status.Status.TheVariants.{Done, Denied, NoCommand, ReadFault, CellRefused}
use Rattle.cell_walks.specs.declared.status.Status.TheVariants.{InputRefused, JournalRefused, DeviceFault}
use Rattle.cell_walks.specs.declared.status.Status.TheVariants.{SinkFault, NoMemory, CommandRefused}
use Rattle.cell_walks.proofs.DiskLaws.{disk_so, early_so, keeps_so, left_so, read_so, refused_reads}
use Rattle.cell_walks.proofs.Laws.{accepted_answers, caused, refused_so}
use Rattle.cell_walks.proofs.Walked.{read_untouched}

-- ---- statuses

-- a status that is taken is not the sink's fault
never_taken : (status : Status) → IsTaken status → status ≡ SinkFault → ⊥
never_taken status taken is = subst IsTaken is taken

-- the subject that a status is of
abbrev IsOf : Status → Subject → Type 0
IsOf NoCommand subject = subject ≡ Words
IsOf CellRefused subject = subject ≡ Cell
IsOf InputRefused subject = subject ≡ Input
IsOf JournalRefused subject = subject ≡ Journal
IsOf CommandRefused subject = subject ≡ Command
IsOf status subject = ⊥

is_of : (subject : Subject) → IsOf (subject_status subject) subject
is_of Words = refl
is_of Cell = refl
is_of Input = refl
is_of Journal = refl
is_of Command = refl

one_subject : (a b : Subject) → subject_status a ≡ subject_status b → a ≡ b
one_subject a Words is = subst (λ (s : Status). IsOf s a) is (is_of a)
one_subject a Cell is = subst (λ (s : Status). IsOf s a) is (is_of a)
one_subject a Input is = subst (λ (s : Status). IsOf s a) is (is_of a)
one_subject a Journal is = subst (λ (s : Status). IsOf s a) is (is_of a)
one_subject a Command is = subst (λ (s : Status). IsOf s a) is (is_of a)

-- a refusal has none of these statuses
not_done : (subject : Subject) → subject_status subject ≡ Done → ⊥
not_done subject is = subst (λ (s : Status). IsOf s subject) is (is_of subject)

not_denied : (subject : Subject) → subject_status subject ≡ Denied → ⊥
not_denied subject is = subst (λ (s : Status). IsOf s subject) is (is_of subject)

no_read_fault : (subject : Subject) → subject_status subject ≡ ReadFault → ⊥
no_read_fault subject is = subst (λ (s : Status). IsOf s subject) is (is_of subject)

no_device_fault : (subject : Subject) → subject_status subject ≡ DeviceFault → ⊥
no_device_fault subject is = subst (λ (s : Status). IsOf s subject) is (is_of subject)

pub no_sink_fault : (subject : Subject) → subject_status subject ≡ SinkFault → ⊥
no_sink_fault subject is = subst (λ (s : Status). IsOf s subject) is (is_of subject)

no_memory : (subject : Subject) → subject_status subject ≡ NoMemory → ⊥
no_memory subject is = subst (λ (s : Status). IsOf s subject) is (is_of subject)

-- the status of an outcome
status_of : (outcome : Outcome) (end : EarlyEnd) → outcome ≡ early end → outcome.status ≡ early_status end
status_of outcome end is = ap (λ (o : Outcome). o.status) is

module _ (seen : Observed) (sink : SinkTold) (walk : Walk) (status : Status) (ends : Ends seen sink walk status) (now : IfSome
    seen.disk.reads seen.disk.leaves)
  where
    abbrev outcome : Outcome
    outcome = ends.outcome

    whole : (status ≡ SinkFault → ⊥)
        → (status ≡ outcome.status) × TookAll sink outcome.pieces × (sink.faults_after ≡ sink.faults)
    whole other = elim ends.delivered [
      | Whole is taken took kept ↦ (is, took, kept)
      | Cut eight took rose ↦ absurd (other eight)
    ]

    delivered_whole : TakesAll sink → (status ≡ outcome.status) × TookAll sink outcome.pieces
    delivered_whole takes = elim ends.delivered [
      | Whole is taken took kept ↦ (is, took)
      | Cut eight took rose ↦ absurd (takes rose)
    ]

    cut : status ≡ SinkFault → IsCut sink outcome.pieces
    cut eight = elim ends.delivered [
      | Whole is taken took kept ↦ absurd (never_taken outcome.status taken (sym is ∙ eight))
      | Cut so took rose ↦ record {
        first = (length took.whole + 1, subst sink.puts (sym (first_pieces took)) took.put);
        part = some_is_prefix sink outcome.pieces took;
        cause = rose;
      }
    ]
      where
        first_pieces : (took : TookSome sink outcome.pieces) → take (length took.whole + 1) outcome.pieces ≡ took.whole ++ took.last ∷ []
        first_pieces took =
            ap (take (length took.whole + 1)) took.parted ∙ take-append-add took.whole (took.last ∷ took.rest) 1

    cause : UnlessOutside seen walk outcome (IsRefused seen walk outcome ⊎ IsAnswered seen walk outcome)
    cause = caused seen outcome Unasked walk ends.allowed

    pieces_taken : (end : EarlyEnd) → outcome ≡ early end → TookAll sink outcome.pieces → TookAll sink (early_line end ∷ [])
    pieces_taken end is took = subst (TookAll sink) (ap (λ (o : Outcome). o.pieces) is) took

    refused : (subject : Subject) → status ≡ subject_status subject
        → ((refusal : Refusal) × (refusal.subject ≡ subject) × Refuses (shown seen) walk refusal × TookAll sink (refusal.line ∷ []))
        ⊎ IsAnswered seen walk outcome
    refused subject is =
        let put = whole (λ eight. no_sink_fault subject (sym is ∙ eight)) in
        let same : subject_status subject ≡ outcome.status = sym is ∙ put.0 in
        elim cause [
          | ReadFailed so rose not ↦ absurd (no_read_fault subject (same ∙ status_of outcome NotRead so))
          | DiskFailed so rose not ↦ absurd (no_device_fault subject (same ∙ status_of outcome DeviceFailed so))
          | MemoryFailed so ↦ absurd (no_memory subject (same ∙ status_of outcome WantOfMemory so))
          | Decided (inl by) ↦ inl (
            by.0,
            one_subject by.0.subject subject (sym (same ∙ status_of outcome (Refused by.0) by.1)),
            by.2,
            pieces_taken (Refused by.0) by.1 put.1,
          )
          | Decided (inr answers) ↦ inr answers
        ]

    done : status ≡ Done → HasAnswered seen sink walk outcome status
    done is =
        let put = whole (λ eight. absurd (let both = sym is ∙ eight in cc)) in
        let same : Done ≡ outcome.status = sym is ∙ put.0 in
        elim cause [
          | ReadFailed so rose not ↦ let both = same ∙ status_of outcome NotRead so in absurd (cc)
          | DiskFailed so rose not ↦ let both = same ∙ status_of outcome DeviceFailed so in absurd (cc)
          | MemoryFailed so ↦ let both = same ∙ status_of outcome WantOfMemory so in absurd (cc)
          | Decided (inl by) ↦ absurd (not_done by.0.subject (sym (same ∙ status_of outcome (Refused by.0) by.1)))
          | Decided (inr answers) ↦ (answers, sym put.0, put.1)
        ]

    denied : status ≡ Denied → HasAnswered seen sink walk outcome status
    denied is =
        let put = whole (λ eight. absurd (let both = sym is ∙ eight in cc)) in
        let same : Denied ≡ outcome.status = sym is ∙ put.0 in
        elim cause [
          | ReadFailed so rose not ↦ let both = same ∙ status_of outcome NotRead so in absurd (cc)
          | DiskFailed so rose not ↦ let both = same ∙ status_of outcome DeviceFailed so in absurd (cc)
          | MemoryFailed so ↦ let both = same ∙ status_of outcome WantOfMemory so in absurd (cc)
          | Decided (inl by) ↦ absurd (not_denied by.0.subject (sym (same ∙ status_of outcome (Refused by.0) by.1)))
          | Decided (inr answers) ↦ (answers, sym put.0, put.1)
        ]

    read_fault : status ≡ ReadFault → HasFailedReading seen walk ⊎ IsAnswered seen walk outcome
    read_fault is =
        let put = whole (λ eight. absurd (let both = sym is ∙ eight in cc)) in
        let same : ReadFault ≡ outcome.status = sym is ∙ put.0 in
        elim cause [
          | ReadFailed so rose not ↦ inl (rose, not)
          | DiskFailed so rose not ↦ let both = same ∙ status_of outcome DeviceFailed so in absurd (cc)
          | MemoryFailed so ↦ let both = same ∙ status_of outcome WantOfMemory so in absurd (cc)
          | Decided (inl by) ↦ absurd (no_read_fault by.0.subject (sym (same ∙ status_of outcome (Refused by.0) by.1)))
          | Decided (inr answers) ↦ inr answers
        ]

    device_fault : status ≡ DeviceFault
        → ((outcome ≡ early DeviceFailed) × Rose seen.disk.faults seen.disk.faults_after) ⊎ IsAnswered seen walk outcome
    device_fault is =
        let put = whole (λ eight. absurd (let both = sym is ∙ eight in cc)) in
        let same : DeviceFault ≡ outcome.status = sym is ∙ put.0 in
        elim cause [
          | ReadFailed so rose not ↦ let both = same ∙ status_of outcome NotRead so in absurd (cc)
          | DiskFailed so rose not ↦ inl (so, rose)
          | MemoryFailed so ↦ let both = same ∙ status_of outcome WantOfMemory so in absurd (cc)
          | Decided (inl by) ↦ absurd (no_device_fault by.0.subject (sym (same ∙ status_of outcome (Refused by.0) by.1)))
          | Decided (inr answers) ↦ inr answers
        ]

    -- nothing outside failed
    read_all : ReadsAll seen walk → Rose seen.files.faults seen.files.faults_after → (seen.files.is_sound → AreThere seen walk → ⊥) → ⊥
    read_all (inl still) rose not = still rose
    read_all (inr sound) rose not = not sound.0 sound.1

    served : DiskServes seen walk → Rose seen.disk.faults seen.disk.faults_after → (OpensNone walk → ⊥) → ⊥
    served (inl none) rose not = not none
    served (inr still) rose not = still rose

    exact : (refusal : Refusal) → Refuses (certain seen) walk refusal → ReadsAll seen walk → DiskServes seen walk → TakesAll sink
        → IsEndedBy sink (Refused refusal) status
    exact refusal refuses reads serves takes =
        let put = delivered_whole takes in
        elim (refused_so seen outcome refusal Unasked walk refuses ends.allowed) [
          | ReadFailed so rose not ↦ absurd (read_all reads rose not)
          | DiskFailed so rose not ↦ absurd (served serves rose not)
          | MemoryFailed so ↦ inr (put.0 ∙ status_of outcome WantOfMemory so)
          | Decided so ↦ inl (put.0 ∙ status_of outcome (Refused refusal) so, pieces_taken (Refused refusal) so put.1)
        ]

    complete : Accepts seen walk → ReadsAll seen walk → DiskServes seen walk → TakesAll sink
        → ((status ≡ outcome.status) × TookAll sink outcome.pieces × IsAnswered seen walk outcome) ⊎ (status ≡ NoMemory)
    complete accepts reads serves takes =
        let put = delivered_whole takes in
        elim (accepted_answers seen outcome now Unasked walk accepts ends.allowed) [
          | ReadFailed so rose not ↦ absurd (read_all reads rose not)
          | DiskFailed so rose not ↦ absurd (served serves rose not)
          | MemoryFailed so ↦ inr (put.0 ∙ status_of outcome WantOfMemory so)
          | Decided answers ↦ inl (put.0, put.1, answers)
        ]

    pub promises : Promises seen sink walk status
    promises = record {
      outcome = outcome;
      allowed = ends.allowed;
      whole = whole;
      cut = cut;
      cause = cause;
      refused = refused;
      exact = exact;
      done = done;
      denied = denied;
      read_fault = read_fault;
      device_fault = device_fault;
      complete = complete;
      disk = λ once. disk_so seen outcome Unasked (λ left. read_untouched seen.disk left) walk once ends.allowed;
      keeps_refused = refused_reads seen outcome Unasked (λ left. read_untouched seen.disk left) walk ends.allowed;
      keeps = λ once. keeps_so seen outcome now walk once ends.allowed;
      early_reads = λ last. early_so seen outcome Unasked (λ left. read_untouched seen.disk left) walk last ends.allowed;
      only_reads = λ only. read_so seen outcome Unasked (λ left. read_untouched seen.disk left) walk only ends.allowed;
      untouched = λ none. left_so seen outcome Unasked walk none ends.allowed;
    }
