-- A first part of some lines is some of them whole, and maybe a front of the next.
use Rattle.std.specs.List.{concat}
use Rattle.std.proofs.Common.{◌≡◌, inl, inr, ℕ, ◌+◌, ◌-◌, List, [], ◌∷◌, ◌++◌, length, take, drop}
use Rattle.std.proofs.Common.{refl, sym, ap, ◌∙◌, subst, arith, append_assoc, take-append-drop}
use Rattle.std.proofs.Math.Seq.{take-append-add, take-append_seam}
use Rattle.std.proofs.lemmas.Bool.{cases_lt}
use Rattle.std.proofs.lemmas.List.{append_cancel_left, take_all, take-append-le}
use Rattle.peers.specs.Moments.{IsAmong}

abbrev Lines : Type 0
Lines = List (List ℕ)

-- the first line is whole, and so on
after_line : (line : List ℕ) (lines : Lines) (put : List ℕ) → IsAmong [] lines put → IsAmong [] (line ∷ lines) (line ++ put)
after_line line lines put among = record {
  whole = line ∷ among.whole;
  rest = among.rest;
  torn = among.torn;
  parted = ap (λ (l : Lines). line ∷ l) among.parted;
  is_torn = among.is_torn;
  put_is = ap (λ (l : List ℕ). line ++ l) among.put_is ∙ sym (append_assoc line (concat among.whole) among.torn);
}

front_among : (lines : Lines) (n : ℕ) → IsAmong [] lines (take n (concat lines))
front_among [] n = record { whole = []; rest = []; torn = []; parted = refl; is_torn = refl; put_is = take_all n [] (omega arith) }
front_among (line ∷ lines) n = elim (cases_lt n (length line)) [
  | inl torn ↦ record {
    whole = [];
    rest = line ∷ lines;
    torn = take n line;
    parted = refl;
    is_torn = inr (n, torn, refl);
    put_is = take-append-le n line (concat lines) (omega (arith, torn));
  }
  | inr past ↦
      let m : ℕ = n - length line in
      let all : n ≡ length line + m = omega (arith, past) in
      subst (IsAmong [] (line ∷ lines))
      (sym (ap (λ (k : ℕ). take k (line ++ concat lines)) all ∙ take-append-add line (concat lines) m))
      (after_line line lines (take m (concat lines)) (front_among lines m))
]

-- .. after what was put before them
among_after : (before : List ℕ) (lines : Lines) (front put : List ℕ) → put ≡ before ++ front → IsAmong [] lines front
    → IsAmong before lines put
among_after before lines front put is among = record {
  whole = among.whole;
  rest = among.rest;
  torn = among.torn;
  parted = among.parted;
  is_torn = among.is_torn;
  put_is = is ∙ ap (λ (bytes : List ℕ). before ++ bytes) among.put_is
      ∙ sym (append_assoc before (concat among.whole) among.torn);
}

-- What lies between what was put before some lines and what was put after a first part of them.
pub among_within : (before : List ℕ) (lines : Lines) (n : ℕ) (front rest put after : List ℕ) → after ≡ before ++ take n (concat lines)
    → put ≡ before ++ front → after ≡ put ++ rest → IsAmong before lines put
among_within before lines n front rest put after after_is is more =
    let every : List ℕ = concat lines in
    let first : front ++ rest ≡ take n every = append_cancel_left before (front ++ rest) (take n every)
    (sym (append_assoc before front rest) ∙ ap (λ (l : List ℕ). l ++ rest) (sym is) ∙ sym more ∙ after_is) in
    let parts : front ++ (rest ++ drop n every) ≡ every =
    sym (append_assoc front rest (drop n every)) ∙ ap (λ (l : List ℕ). l ++ drop n every) first ∙ take-append-drop n every in
    let fronts : take (length front) every ≡ front =
    ap (take (length front)) (sym parts) ∙ take-append_seam front (rest ++ drop n every) in
    among_after before lines front put is (subst (IsAmong [] lines) fronts (front_among lines (length front)))
