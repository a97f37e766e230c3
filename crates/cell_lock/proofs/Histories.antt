-- Beginnings of a history, and the entries of one number in it.
use Rattle.std.proofs.Common.{◌≡◌, ◌≢◌, ℕ, zero, suc, ◌+◌, ◌<◌, ◌≤◌, ◌==◌, List, [], ◌∷◌, ◌++◌, replicate}
use Rattle.std.proofs.Common.{refl, sym, ap, ◌∙◌, arith, append_assoc, append-nil, zero-add}
use Rattle.std.proofs.lemmas.Bool.{cond-true, cond-false, eq-eqb, ne_eqb}
use Rattle.std.proofs.lemmas.List.Elements.{filter-append}
use mathlib.Core.List.{IsPrefix}
use Rattle.cell_base.specs.declared.shifts.Entry.{Entry}
use Rattle.cell_base.specs.Histories.{entries_of}
use Rattle.cell_lock.specs.Law.{AllBegin}
use Rattle.cell_lock.specs.Views.{own_entries_of}

pub prefix_all : (xs : List Entry) → IsPrefix xs xs
prefix_all xs = ([], append-nil xs)

pub prefix_more : (xs ys zs : List Entry) → IsPrefix xs ys → IsPrefix xs (ys ++ zs)
prefix_more xs ys zs p = (p.0 ++ zs, sym (append_assoc xs p.0 zs) ∙ ap (λ (l : List Entry). l ++ zs) p.1)

pub prefix_nil : (xs : List Entry) → IsPrefix [] xs
prefix_nil xs = (xs, refl)

pub begin_more : (answers : List (List Entry × ℕ)) (log more : List Entry) → AllBegin answers log → AllBegin answers (log ++ more)
begin_more [] log more b = tt
begin_more (answer ∷ answers) log more b = (prefix_more answer.0 log more b.0, begin_more answers log more b.1)

pub begin_append : (xs ys : List (List Entry × ℕ)) (log : List Entry) → AllBegin xs log → AllBegin ys log → AllBegin (xs ++ ys) log
begin_append [] ys log a b = b
begin_append (x ∷ xs) ys log a b = (a.0, begin_append xs ys log a.1 b)

pub begin_after : (xs ys : List (List Entry × ℕ)) (log : List Entry) → AllBegin (xs ++ ys) log → AllBegin ys log
begin_after [] ys log b = b
begin_after (x ∷ xs) ys log b = begin_after xs ys log b.1

pub entries-own : (k : ℕ) (log : List Entry) (e : Entry) → e.session ≡ k → entries_of k (log ++ e ∷ []) ≡ entries_of k log ++ e ∷ []
entries-own k log e same =
    filter-append (λ (x : Entry). x.session == k) log (e ∷ [])
    ∙ ap (λ es. entries_of k log ++ es) (cond-true _ _ _ (eq-eqb e.session k same))

pub entries-other : (k : ℕ) (log : List Entry) (e : Entry) → e.session ≢ k → entries_of k (log ++ e ∷ []) ≡ entries_of k log
entries-other k log e other =
    filter-append (λ (x : Entry). x.session == k) log (e ∷ [])
    ∙ ap (λ es. entries_of k log ++ es) (cond-false _ _ _ (ne_eqb e.session k other)) ∙ append-nil _

pub own_entries-other : (first count : ℕ) (log : List Entry) (e : Entry) → ((first ≤ e.session) × (e.session < first + count) → ⊥)
    → own_entries_of first count (log ++ e ∷ []) ≡ own_entries_of first count log
own_entries-other first zero log e out = refl
own_entries-other first (suc count) log e out = λ i.
    entries-other first log e (λ same. out (omega arith, omega arith)) i
    ∷ own_entries-other (first + 1) count log e (λ h. out (omega arith, omega arith)) i

pub own_entries-append : (first n m next : ℕ) (log : List Entry) → next ≡ first + n
    → own_entries_of first (n + m) log ≡ own_entries_of first n log ++ own_entries_of next m log
own_entries-append first zero m next log is = ap (λ (x : ℕ). own_entries_of first x log) (zero-add m) ∙ ap (λ (x : ℕ). own_entries_of x m log) (omega arith)
own_entries-append first (suc n) m next log is =
    let e : suc n + m ≡ suc (n + m) = omega arith in
    ap (λ (x : ℕ). own_entries_of first x log) e
    ∙ ap (λ (l : List (List Entry)). entries_of first log ∷ l) (own_entries-append (first + 1) n m next log (omega arith))

pub own_entries-empty : (first count : ℕ) → own_entries_of first count [] ≡ replicate count []
own_entries-empty first zero = refl
own_entries-empty first (suc count) = ap (λ (l : List (List Entry)). [] ∷ l) (own_entries-empty (first + 1) count)
