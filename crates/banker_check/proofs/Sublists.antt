-- The sets of parts that can be taken from a list, and the largest of the stuck ones.
use Rattle.std.proofs.Common.{◌≡◌, ◌≢◌, ℕ, ◌≤◌, Bool, true, false, cond, nat_le, ◌⊎◌, List, [], ◌∷◌, length, map, Contains, All, filter}
use Rattle.std.proofs.Common.{refl, subst, ⊎_elim, arith}
use Rattle.std.proofs.lemmas.Bool.{cond_both, leb-true, leb-false}
use Rattle.std.proofs.lemmas.List.Elements.{All-contains, All-append, All-nil, All-cons, All-head, All-tail, All-map, All-weaker}
use Rattle.std.proofs.lemmas.List.Elements.{Contains-append_left, Contains-append_right}
use Rattle.std.proofs.lemmas.List.Kept.{AllPairs-cons}
use Rattle.cell_base.specs.declared.cells.Cell.{Cell}
use Rattle.cell_base.specs.declared.requests.Part.{Part}
use Rattle.cell_base.specs.Policy.{HaveDistinctJobs}
use Rattle.policy_laws.proofs.Lists.{All-from_Contains, Contains-map, Contains-head, Contains-tail, Contains-none, Contains-cases}
use Rattle.policy_laws.proofs.Parts.{IsOther, others_after, distinct_after}
use Rattle.banker_check.specs.StuckSets.{is_stuck, sublists, largest, stuck}
use Rattle.banker_check.proofs.Within.{Within, filter-kept, filter-keeps}

-- parts of different jobs among these ones
pub record IsPartOf (parts set : List Part) : Type 0 where
  pub distinct : HaveDistinctJobs set
  pub within : Within set parts

pub sublists-parts : (parts : List Part) → HaveDistinctJobs parts → All (IsPartOf parts) (sublists parts)
sublists-parts [] distinct =
    All-cons (IsPartOf []) [] [] (record { distinct = distinct; within = λ part c. c }) (All-nil (IsPartOf []))
sublists-parts (first ∷ parts) distinct =
    let later = sublists-parts parts (distinct_after first parts distinct) in
    All-append (IsPartOf (first ∷ parts)) (map (λ set. first ∷ set) (sublists parts)) (sublists parts)
    (All-map (IsPartOf (first ∷ parts)) (λ set. first ∷ set) (sublists parts)
    (All-weaker (IsPartOf parts) (λ set. IsPartOf (first ∷ parts) (first ∷ set)) with_it (sublists parts) later))
    (All-weaker (IsPartOf parts) (IsPartOf (first ∷ parts))
    (λ set h. record { distinct = h.distinct; within = λ part c. Contains-tail first part parts (h.within part c) }) (sublists parts) later)
  where
    with_it : (set : List Part) → IsPartOf parts set → IsPartOf (first ∷ parts) (first ∷ set)
    with_it set h = record {
      distinct = AllPairs-cons (λ a b. a.job ≢ b.job) first set
          (All-from_Contains (IsOther first.job) set (λ part c. All-contains (IsOther first.job) parts part
          (others_after first parts distinct) (h.within part c)))
          h.distinct;
      within = λ part c. ⊎_elim (λ same. subst (λ p. Contains (first ∷ parts) p) same (Contains-head first parts))
          (λ d. Contains-tail first part parts (h.within part d)) (Contains-cases first part set c);
    }

-- the parts themselves are one of the sets
pub sublists-all : (parts : List Part) → Contains (sublists parts) parts
sublists-all [] = Contains-head [] []
sublists-all (first ∷ parts) =
    Contains-append_left (map (λ set. first ∷ set) (sublists parts)) (sublists parts) (first ∷ parts)
    (Contains-map (λ set. first ∷ set) (sublists parts) parts (sublists-all parts))

-- a set that can be taken from some of the parts can be taken from all
pub sublists-filter : (test : Part → Bool) (parts : List Part) → All (Contains (sublists parts)) (sublists (filter test parts))
sublists-filter test [] = All-cons (Contains (sublists [])) [] [] (Contains-head [] []) (All-nil (Contains (sublists [])))
sublists-filter test (first ∷ parts) = at (test first) (sublists-filter test parts)
  where
    kept : List Part
    kept = filter test parts

    with_it : List (List Part)
    with_it = map (λ set. first ∷ set) (sublists parts)

    behind : All (Contains (sublists parts)) (sublists (filter test parts)) → All (Contains (sublists (first ∷ parts)))
        (sublists (filter test parts))
    behind later =
        All-weaker (Contains (sublists parts)) (Contains (sublists (first ∷ parts)))
        (λ set c. Contains-append_right (map (λ set. first ∷ set) (sublists parts)) (sublists parts) set c)
        (sublists (filter test parts)) later

    at : (b : Bool) → All (Contains (sublists parts)) (sublists (filter test parts))
        → All (Contains (sublists (first ∷ parts))) (sublists (cond b (first ∷ filter test parts) (filter test parts)))
    at true later =
        All-append (Contains (sublists (first ∷ parts))) (map (λ set. first ∷ set) (sublists (filter test parts)))
        (sublists (filter test parts))
        (All-map (Contains (sublists (first ∷ parts))) (λ set. first ∷ set) (sublists (filter test parts))
        (All-weaker (Contains (sublists parts)) (λ set. Contains (sublists (first ∷ parts)) (first ∷ set))
        (λ set c. Contains-append_left (map (λ set. first ∷ set) (sublists parts)) (sublists parts) (first ∷ set)
        (Contains-map (λ set. first ∷ set) (sublists parts) set c))
        (sublists (filter test parts)) later))
        (behind later)
    at false later = behind later

-- the largest number
largest-over : (ns : List ℕ) (n : ℕ) → Contains ns n → n ≤ largest ns
largest-over [] n c = absurd (Contains-none n c)
largest-over (first ∷ ns) n c = at (nat_le first (largest ns)) refl (Contains-cases first n ns c) (largest-over ns n)
  where
    at : (b : Bool) → nat_le first (largest ns) ≡ b → (first ≡ n) ⊎ Contains ns n → (Contains ns n → n ≤ largest ns)
        → n ≤ cond b (largest ns) first
    at true e cases later = ⊎_elim (λ same. omega (arith, same, leb-true first (largest ns) e)) later cases
    at false e cases later = ⊎_elim (λ same. omega (arith, same)) (λ h. omega (arith, later h, leb-false first (largest ns) e)) cases

largest-most : (ns : List ℕ) (m : ℕ) → All (λ n. n ≤ m) ns → largest ns ≤ m
largest-most [] m all = omega arith
largest-most (n ∷ ns) m all =
    cond_both {A = ℕ} (nat_le n (largest ns)) (largest ns) n (λ x. x ≤ m) (λ e. largest-most ns m (All-tail (λ n. n ≤ m) n ns all))
    (λ e. All-head (λ n. n ≤ m) n ns all)

module _ (cell : Cell) (parts : List Part) where
  pub stuck-over : (set : List Part) → Contains (sublists parts) set → is_stuck cell set ≡ true → length set ≤ stuck cell parts
  stuck-over set c e =
      largest-over (map length (filter (is_stuck cell) (sublists parts))) (length set)
      (Contains-map length (filter (is_stuck cell) (sublists parts)) set (filter-keeps (is_stuck cell) (sublists parts) set c e))

  pub stuck-most : (m : ℕ) → ((set : List Part) → Contains (sublists parts) set → is_stuck cell set ≡ true → length set ≤ m)
      → stuck cell parts ≤ m
  stuck-most m each =
      largest-most (map length (filter (is_stuck cell) (sublists parts))) m
      (All-map (λ n. n ≤ m) length (filter (is_stuck cell) (sublists parts))
      (All-from_Contains (λ set. length set ≤ m) (filter (is_stuck cell) (sublists parts))
      (λ set c. let kept = filter-kept (is_stuck cell) (sublists parts) set c in each set kept.0 kept.1)))
