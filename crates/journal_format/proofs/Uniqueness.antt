-- No file is a journal in two ways, and no journal is blank.
use Rattle.std.specs.Prelude.{Some}
use Rattle.std.proofs.Common.{◌≡◌, ◌≢◌, inl, inr, ℕ, List, [], ◌∷◌, ◌++◌, length, get_or, take}
use Rattle.std.proofs.Common.{drop, refl, sym, ◌∙◌, ap, arith, append_assoc, length-append}
use Rattle.std.proofs.lemmas.List.{take_at, drop_at}
use Rattle.std.proofs.lemmas.Nat.{from_be_bytes-to_be_bytes_4}
use Rattle.std.specs.Int.{from_be_bytes, w32}
use Rattle.std.specs.List.{AllByRecursion}
use Rattle.cell_base.specs.declared.shifts.Grant.{Grant}
use Rattle.journal_format.specs.declared.head.TheConstants.{TEXT_AT}
use Rattle.entry_codec.specs.Decoding.{grant_of}
use Rattle.entry_codec.specs.Records.{record_of}
use Rattle.entry_codec.specs.RecordLaws.{length-record_of}
use Rattle.journal_format.specs.declared.blank.BlankForm.{BlankForm}
use Rattle.journal_format.specs.declared.blank.BlankForm.TheVariants.{Short, Shut, Named}
use Rattle.journal_format.specs.Blanks.{HasForm}
use Rattle.journal_format.specs.Journals.{entries, front, IsReadAgain, IsJournal, StandsFor}
use Rattle.journal_format.proofs.Fronts.{length-front}

-- where two texts are equal, so are their prefixes of one length, and what stands after these
first_same : (n : ℕ) (a b x y : List ℕ) → length a ≡ n → length b ≡ n → a ++ x ≡ b ++ y → a ≡ b
first_same n a b x y size_a size_b is = sym (take_at a x n size_a) ∙ ap (λ (l : List ℕ). take n l) is ∙ take_at b y n size_b

rest_same : (n : ℕ) (a b x y : List ℕ) → length a ≡ n → length b ≡ n → a ++ x ≡ b ++ y → x ≡ y
rest_same n a b x y size_a size_b is = sym (drop_at a x n size_a) ∙ ap (λ (l : List ℕ). drop n l) is ∙ drop_at b y n size_b

entries_same : (a b : List Grant) (gate_a gate_b : ℕ) (x y : List ℕ) → AllByRecursion IsReadAgain a → AllByRecursion IsReadAgain b
    → gate_a ≢ 1 → gate_b ≢ 1 → entries a ++ gate_a ∷ x ≡ entries b ++ gate_b ∷ y → a ≡ b
entries_same [] [] gate_a gate_b x y each_a each_b shut_a shut_b is = refl
entries_same [] (h ∷ b) gate_a gate_b x y each_a each_b shut_a shut_b is =
    absurd (shut_a (ap (λ (l : List ℕ). get_or l 0 0) is))
entries_same (g ∷ a) [] gate_a gate_b x y each_a each_b shut_a shut_b is =
    absurd (shut_b (sym (ap (λ (l : List ℕ). get_or l 0 0) is)))
entries_same (g ∷ a) (h ∷ b) gate_a gate_b x y each_a each_b shut_a shut_b is =
    let after_a : List ℕ = entries a ++ gate_a ∷ x in
    let after_b : List ℕ = entries b ++ gate_b ∷ y in
    let tails : record_of g ++ after_a ≡ record_of h ++ after_b =
    sym (append_assoc (record_of g) (entries a) (gate_a ∷ x)) ∙ ap (λ (l : List ℕ). drop 1 l) is
    ∙ append_assoc (record_of h) (entries b) (gate_b ∷ y) in
    let records = first_same 16 (record_of g) (record_of h) after_a after_b (length-record_of g) (length-record_of h) tails in
    let rests = rest_same 16 (record_of g) (record_of h) after_a after_b (length-record_of g) (length-record_of h) tails in
    let both : Some g ≡ Some h = sym each_a.0 ∙ ap grant_of records ∙ each_b.0 in
    let first : g ≡ h = cc in
    (λ i. first i ∷ entries_same a b gate_a gate_b x y each_a.1 each_b.1 shut_a shut_b rests i)

-- the stored length, and what stands after it
stored_length : (file text : List ℕ) (grants : List Grant) → IsJournal file text grants
    → from_be_bytes w32 (take 4 (drop 9 file)) ≡ length text
stored_length file text grants journal =
    ap (λ (l : List ℕ). from_be_bytes w32 (take 4 (drop 9 l))) journal.split ∙ from_be_bytes-to_be_bytes_4 (length text) journal.size

after_head : (file text : List ℕ) (grants : List Grant) (journal : IsJournal file text grants)
    → drop TEXT_AT file ≡ text ++ (entries grants ++ journal.gate ∷ journal.later)
after_head file text grants journal =
    ap (λ (l : List ℕ). drop TEXT_AT l) journal.split ∙ append_assoc text (entries grants) (journal.gate ∷ journal.later)

pub one_journal : (file text other : List ℕ) (grants others : List Grant) → IsJournal file text grants → IsJournal file other others
    → (text ≡ other) × (grants ≡ others)
one_journal file text other grants others a b =
    let lengths : length text ≡ length other = sym (stored_length file text grants a) ∙ stored_length file other others b in
    let after_a : List ℕ = entries grants ++ a.gate ∷ a.later in
    let after_b : List ℕ = entries others ++ b.gate ∷ b.later in
    let whole = sym (after_head file text grants a) ∙ after_head file other others b in
    let texts = first_same (length other) text other after_a after_b lengths refl whole in
    let rests = rest_same (length other) text other after_a after_b lengths refl whole in
    (texts, entries_same grants others a.gate b.gate a.later b.later a.each b.each a.closed b.closed rests)

not_blank : (file text : List ℕ) (grants : List Grant) → IsJournal file text grants → (form : BlankForm) → HasForm form file → ⊥
not_blank file text grants journal Short short =
    let size = length-append (front text grants) (journal.gate ∷ journal.later) in
    absurd (omega (arith, ap length journal.split, length-front text grants, size))
not_blank file text grants journal Shut shut =
    let ones : 1 ∷ [] ≡ 0 ∷ [] = sym (ap (λ (l : List ℕ). take 1 l) journal.split) ∙ shut in
    absurd (omega (arith, ap (λ (l : List ℕ). get_or l 0 0) ones))
not_blank file text grants journal Named named =
    let heads = sym (ap (λ (l : List ℕ). take 9 l) journal.split) ∙ named.2 in
    named.1 (sym (ap (λ (l : List ℕ). get_or l 0 0) heads))

pub journal_of : (file text other : List ℕ) (grants others : List Grant) → IsJournal file other others → StandsFor file text grants
    → IsJournal file text grants
journal_of file text other grants others is (inl blank) = absurd (not_blank file other others is blank.0.0 blank.0.1)
journal_of file text other grants others is (inr journal) = journal
