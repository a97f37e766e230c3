-- What the two writes of an append make of a journal.
use Rattle.std.proofs.Common.{◌≡◌, inl, inr, ℕ, ◌+◌, ◌<◌, ◌≤◌, List, [], ◌∷◌, ◌++◌, length, get_or}
use Rattle.std.proofs.Common.{drop, refl, sym, ◌∙◌, ap, subst, arith, append_assoc, length-append}
use Rattle.std.proofs.lemmas.Bool.{cases_eq}
use Rattle.cell_base.specs.declared.shifts.Grant.{Grant}
use Rattle.outside_io.specs.Disk.{overwritten, Torn, Only}
use Rattle.move_journal.specs.Disks.{ComesOf}
use Rattle.std.specs.List.{AllByRecursion}
use Rattle.journal_format.specs.Journals.{entries, front, gate_of, group_bytes, IsReadAgain, IsJournal, HoldsRecords, Staged, WithOrWithout}
use Rattle.journal_format.proofs.Fronts.{length-front, front-append, each-append}
use Rattle.move_journal.proofs.Splits.{torn_after, torn_byte, written_after, written_byte, regroup}
use Rattle.move_journal.proofs.Turning.{of_only}

-- ---- the write of the record

module _ (file text : List ℕ) (grants : List Grant) (journal : IsJournal file text grants) where
  closed_front : List ℕ
  closed_front = front text grants ++ journal.gate ∷ []

  length-closed_front : length closed_front ≡ gate_of text grants + 1
  unfolding closed_front
  length-closed_front = omega (arith, length-front text grants, length-append (front text grants) (journal.gate ∷ []))

  split_at_gate : file ≡ closed_front ++ journal.later
  unfolding closed_front
  split_at_gate = journal.split ∙ regroup (front text grants) journal.gate journal.later

  -- whatever is torn after the closed gate, the grants are the same
  torn_after_gate : (n : ℕ) (c : List ℕ) → Torn (gate_of text grants + 1) n file c → IsJournal c text grants
  unfolding closed_front
  torn_after_gate n c torn =
      let at : ℕ = gate_of text grants + 1 in
      let split_torn = subst (λ (f : List ℕ). Torn at n f c) split_at_gate torn in
      record {
        size = journal.size;
        each = journal.each;
        gate = journal.gate;
        closed = journal.closed;
        later = drop at c;
        split = torn_after at n closed_front journal.later c length-closed_front split_torn
            ∙ append_assoc (front text grants) (journal.gate ∷ []) (drop at c);
      }

  written_after_gate : (more : List Grant) → 0 < length more → AllByRecursion IsReadAgain more → (new : List ℕ)
      → new ≡ overwritten file (gate_of text grants + 1) (drop 1 (group_bytes more)) → Staged text grants more new
  unfolding closed_front
  written_after_gate more some are new written =
      let at : ℕ = gate_of text grants + 1 in
      let piece : List ℕ = drop 1 (group_bytes more) in
      let rest : List ℕ = drop (at + length piece) (closed_front ++ journal.later) in
      record {
        size = journal.size;
        each = journal.each;
        some = some;
        are_read = are;
        gate = journal.gate;
        closed = journal.closed;
        later = rest;
        split = written ∙ ap (λ (f : List ℕ). overwritten f at piece) split_at_gate
            ∙ written_after at closed_front journal.later piece length-closed_front
            ∙ append_assoc closed_front piece rest
            ∙ append_assoc (front text grants) (journal.gate ∷ []) (piece ++ rest);
      }

  pub gate_within : gate_of text grants + 1 ≤ length file
  gate_within =
      omega (arith, ap length journal.split, length-front text grants, length-append (front text grants) (journal.gate ∷ journal.later))

module _ (file text : List ℕ) (grants : List Grant) (gate : ℕ) (more : List Grant) (bytes piece : List ℕ)
    (holds : HoldsRecords file text grants gate more bytes) (piece_is : piece ≡ drop 1 bytes)
  where
    pub records_torn : (outcomes : List ℕ → Type 0) → Only file outcomes → (c : List ℕ)
        → ComesOf (gate + 1) (length piece) outcomes c → IsJournal c text grants
    records_torn outcomes only c comes =
        let torn = of_only _ _ file outcomes only c comes in
        torn_after_gate file text grants holds.journal (length piece) c
        (subst (λ (at : ℕ). Torn (at + 1) (length piece) file c) holds.gate_is torn)

    pub records_written : (new : List ℕ) → new ≡ overwritten file (gate + 1) piece → Staged text grants more new
    records_written new written =
        let same : piece ≡ drop 1 (group_bytes more) = piece_is ∙ ap (λ (l : List ℕ). drop 1 l) holds.bytes_are in
        written_after_gate file text grants holds.journal more holds.some holds.are_read new
        (written ∙ ap (λ (at : ℕ). overwritten file (at + 1) piece) holds.gate_is
        ∙ ap (λ (l : List ℕ). overwritten file (gate_of text grants + 1) l) same)

-- ---- the write of the gate

-- with its first gate open, a group is its bytes
whole_group : (more : List Grant) → 0 < length more → 1 ∷ drop 1 (group_bytes more) ≡ group_bytes more
whole_group [] some = absurd (omega (arith, some))
whole_group (g ∷ more) some = refl

module _ (file text : List ℕ) (grants more : List Grant) (staged : Staged text grants more file)
    (at : ℕ) (at_is : at ≡ gate_of text grants)
  where
    abbrev after_it : List ℕ
    after_it = drop 1 (group_bytes more) ++ staged.later

    front_is : length (front text grants) ≡ at
    front_is = length-front text grants ∙ sym at_is

    opened : (c : List ℕ) → c ≡ front text grants ++ 1 ∷ after_it → IsJournal c text (grants ++ more)
    opened c is = record {
      size = staged.size;
      each = each-append grants more staged.each staged.are_read;
      gate = 0;
      closed = omega arith;
      later = staged.later;
      split = is ∙ ap (λ (l : List ℕ). front text grants ++ (l ++ staged.later)) (whole_group more staged.some)
          ∙ ap (λ (l : List ℕ). front text grants ++ l) (append_assoc (entries more) (0 ∷ []) staged.later)
          ∙ sym (front-append text grants more (0 ∷ staged.later));
    }

    -- a gate that is torn is open or it isn't
    pub gate_torn : (outcomes : List ℕ → Type 0) → Only file outcomes → (c : List ℕ) → ComesOf at 1 outcomes c
        → WithOrWithout text grants more c
    gate_torn outcomes only c comes =
        let gate : ℕ = get_or c at 0 in
        let torn = subst (λ (f : List ℕ). Torn at 1 f c) staged.split (of_only _ _ file outcomes only c comes) in
        let whole : c ≡ front text grants ++ gate ∷ after_it = torn_byte at (front text grants) staged.gate after_it c front_is torn in
        elim (cases_eq gate 1) [
          | inl is_open ↦ inr (opened c (whole ∙ ap (λ (g : ℕ). front text grants ++ g ∷ after_it) is_open))
          | inr shut ↦ inl (record {
            size = staged.size;
            each = staged.each;
            gate = gate;
            closed = shut;
            later = after_it;
            split = whole;
          })
        ]

    pub gate_written : (new : List ℕ) → new ≡ overwritten file at (1 ∷ []) → IsJournal new text (grants ++ more)
    gate_written new written =
        opened new (written ∙ ap (λ (f : List ℕ). overwritten f at (1 ∷ [])) staged.split
        ∙ written_byte at (front text grants) staged.gate 1 after_it front_is)
