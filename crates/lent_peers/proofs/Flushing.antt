-- A call that belongs to the put before it.
use Rattle.std.specs.Prelude.{Option}
use Rattle.std.specs.List.{concat}
use Rattle.std.specs.Io.KnownBytes.{Appends}
use Rattle.std.proofs.Common.{◌≡◌, ℕ, List, [], ◌∷◌, ◌++◌, length, take, refl, sym, ap, subst, ◌∙◌, append-nil, arith}
use Rattle.std.proofs.lemmas.List.{take_all}
use Rattle.std.proofs.lemmas.List.Folds.{concat-append}
use Rattle.outside_io.specs.Puts.{TookAll, TookSome, WerePut, sink_told}

abbrev Lines : Type 0
Lines = List (List ℕ)

-- the last of some lines, and those before it
parted : (line : List ℕ) (lines : Lines) → (before : Lines) × (last : List ℕ) × (line ∷ lines ≡ before ++ last ∷ [])
parted line [] = ([], line, refl)
parted line (next ∷ lines) = let rest = parted next lines in (line ∷ rest.0, rest.1, ap (λ (l : Lines). line ∷ l) rest.2)

module _ {T : Type 0} (taken : T → Option (List ℕ)) (was_put : T → List ℕ → T → Type 0) (faults : T → ℕ) (mid new : T)
    (of_put : (first : T) (piece : List ℕ) → was_put first piece mid → was_put first piece new) (same : taken new ≡ taken mid) where
  -- the last put goes on
  puts_further : (first : T) (line : List ℕ) (lines : Lines) → WerePut was_put first mid (line ∷ lines)
      → WerePut was_put first new (line ∷ lines)
  puts_further first line [] puts = (new, of_put first line (subst (was_put first line) (sym puts.2) puts.1), refl)
  puts_further first line (next ∷ lines) puts = (puts.0, puts.1, puts_further puts.0 next lines puts.2)

  puts_so : (first : T) (lines : Lines) (last : List ℕ) → WerePut was_put first mid (lines ++ last ∷ [])
      → WerePut was_put first new (lines ++ last ∷ [])
  puts_so first [] last puts = puts_further first last [] puts
  puts_so first (line ∷ lines) last puts = puts_further first line (lines ++ last ∷ []) puts

  module _ (first : T) where
    -- all of these lines are taken still
    pub all_still : (line : List ℕ) (lines : Lines) → TookAll (sink_told taken was_put faults first mid) (line ∷ lines)
        → TookAll (sink_told taken was_put faults first new) (line ∷ lines)
    all_still line lines all = record {
      put = puts_further first line lines all.put;
      taken = subst (λ (o : Option (List ℕ)). Appends (taken first) o (concat (line ∷ lines))) (sym same) all.taken;
    }

    -- .. or, where the call failed, the last one is a put that failed
    pub all_then : (line : List ℕ) (lines : Lines) → TookAll (sink_told taken was_put faults first mid) (line ∷ lines)
        → TookSome (sink_told taken was_put faults first new) (line ∷ lines)
    all_then line lines all =
        let part = parted line lines in
        let still = all_still line lines all in
        let whole : concat (line ∷ lines) ≡ concat part.0 ++ take (length part.1) part.1 =
        ap concat part.2 ∙ concat-append part.0 (part.1 ∷ [])
        ∙ ap (λ (bytes : List ℕ). concat part.0 ++ bytes)
        (append-nil part.1 ∙ sym (take_all (length part.1) part.1 (omega arith))) in
        record {
          whole = part.0;
          last = part.1;
          rest = [];
          parted = part.2;
          put = subst (WerePut was_put first new) part.2 still.put;
          taken = (length part.1, subst (Appends (taken first) (taken new)) whole still.taken);
        }

    -- a first part of these lines is taken still
    pub some_still : (lines : Lines) → TookSome (sink_told taken was_put faults first mid) lines
        → TookSome (sink_told taken was_put faults first new) lines
    some_still lines some = record {
      whole = some.whole;
      last = some.last;
      rest = some.rest;
      parted = some.parted;
      put = puts_so first some.whole some.last some.put;
      taken = (
        some.taken.0,
        subst (λ (o : Option (List ℕ)). Appends (taken first) o (concat some.whole ++ take some.taken.0 some.last)) (sym same) some.taken.1,
      );
    }
