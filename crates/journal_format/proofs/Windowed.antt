-- What stands at the gates of a file.
use Rattle.std.specs.Prelude.{Some, Ok, slice_range}
use Rattle.std.proofs.Common.{◌≡◌, ℕ, zero, suc, ◌+◌, ◌-◌, ◌≤◌, List, [], ◌∷◌, ◌++◌, length, get_or, take}
use Rattle.std.proofs.Common.{drop, sym, ◌∙◌, ap, arith, append_assoc, length-append, take-append-drop}
use Rattle.std.proofs.lemmas.List.{take-append-le}
use Rattle.std.proofs.Math.Seq.{drop-nil}
use Rattle.std.proofs.lemmas.Bool.Decides.{nat_tests}
use Rattle.cell_base.specs.declared.shifts.Grant.{Grant}
use Rattle.entry_codec.specs.declared.encoder.TheConstants.{ENTRY_SIZE}
use Rattle.entry_codec.specs.Decoding.{grant_of}
use Rattle.journal_format.specs.Readings.{gate_at}

pub drop-drop_at : (at n : ℕ) (file : List ℕ) → drop n (drop at file) ≡ drop (at + n) file
drop-drop_at zero n file = ap (λ (k : ℕ). drop k file) (omega arith)
drop-drop_at (suc at) n [] = drop-nil n ∙ (let more : suc at + n ≡ suc (at + n) = omega arith in sym (ap (λ (k : ℕ). drop k []) more))
drop-drop_at (suc at) n (x ∷ file) = drop-drop_at at n file
    ∙ (let more : suc at + n ≡ suc (at + n) = omega arith in sym (ap (λ (k : ℕ). drop k (x ∷ file)) more))

pub piece_more : (kept window new piece file : List ℕ) (at n : ℕ) → window ≡ kept → new ≡ window ++ piece
    → piece ≡ slice_range file at (at + n) → kept ++ drop at file ≡ new ++ drop (at + n) file
piece_more kept window new piece file at n is more read =
    let size : at + n - at ≡ n = omega arith in
    let front : piece ≡ take n (drop at file) = read ∙ ap (λ (k : ℕ). take k (drop at file)) size in
    let whole : drop at file ≡ piece ++ drop (at + n) file = sym (take-append-drop n (drop at file))
    ∙ (λ i. sym front i ++ drop-drop_at at n file i) in
    ap (λ (l : List ℕ). kept ++ l) whole ∙ sym (append_assoc kept piece (drop (at + n) file))
    ∙ ap (λ (l : List ℕ). l ++ piece ++ drop (at + n) file) (sym is) ∙ ap (λ (l : List ℕ). l ++ drop (at + n) file) (sym more)

pub gate_open : (at gate : ℕ) (after : List ℕ) (grant : Grant) → gate ≡ 1 → ENTRY_SIZE ≤ length after
    → grant_of (take 16 after) ≡ Some grant → gate_at at (gate ∷ after) ≡ Ok (Some grant)
unfolding gate_at
gate_open at gate after grant is long read = grind (arith, nat_tests)

pub gate_whole : (at : ℕ) (window unread : List ℕ) (grant : Grant) → 18 ≤ length window → get_or window 0 0 ≡ 1
    → grant_of (take 16 (drop 1 window)) ≡ Some grant → gate_at at (window ++ unread) ≡ Ok (Some grant)
gate_whole at [] unread grant long is read = absurd (omega arith)
gate_whole at (gate ∷ after) unread grant long is read =
    gate_open at gate (after ++ unread) grant is (omega (arith, length-append after unread))
    (ap grant_of (take-append-le 16 after unread (omega arith)) ∙ read)
