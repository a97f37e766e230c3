-- The front of a journal: its length, and one record more.
use Rattle.std.proofs.lemmas.List.{append-nil, take_at}
use Rattle.std.proofs.Common.{◌-◌, take, ◌≡◌, ℕ, ◌*◌, List, [], ◌∷◌, ◌++◌, length, refl, sym, ◌∙◌, ap, arith, append_assoc, length-append}
use Rattle.std.specs.List.{AllByRecursion}
use Rattle.cell_base.specs.declared.shifts.Grant.{Grant}
use Rattle.entry_codec.specs.declared.encoder.TheConstants.{ENTRY_SIZE}
use Rattle.entry_codec.specs.Records.{record_of}
use Rattle.entry_codec.specs.RecordLaws.{length-record_of}
use Rattle.journal_format.specs.Journals.{head, entries, front, gate_of, group_bytes, IsReadAgain}

pub length-entries : (grants : List Grant) → length (entries grants) ≡ ENTRY_SIZE * length grants
length-entries [] = refl
length-entries (grant ∷ grants) =
    omega (arith, length-entries grants, length-record_of grant, length-append (1 ∷ record_of grant) (entries grants))

pub length-front : (text : List ℕ) (grants : List Grant) → length (front text grants) ≡ gate_of text grants
length-front text grants = omega (arith, length-entries grants, length-append (1 ∷ head text) (entries grants))

entries-append : (grants more : List Grant) → entries (grants ++ more) ≡ entries grants ++ entries more
entries-append [] more = refl
entries-append (g ∷ grants) more =
    ap (λ (l : List ℕ). (1 ∷ record_of g) ++ l) (entries-append grants more)
    ∙ sym (append_assoc (1 ∷ record_of g) (entries grants) (entries more))

pub front-append : (text : List ℕ) (grants more : List Grant) (rest : List ℕ)
    → front text (grants ++ more) ++ rest ≡ front text grants ++ (entries more ++ rest)
front-append text grants more rest =
    ap (λ (l : List ℕ). (1 ∷ head text) ++ l ++ rest) (entries-append grants more)
    ∙ ap (λ (l : List ℕ). l ++ rest) (sym (append_assoc (1 ∷ head text) (entries grants) (entries more)))
    ∙ append_assoc (front text grants) (entries more) rest

-- one grant more in the bytes of a group: they lose their closed gate, and get the record between an open and a closed one
pub group-push : (grants : List Grant) (grant : Grant) (bytes one piece new : List ℕ) → bytes ≡ group_bytes grants
    → piece ≡ 1 ∷ one ++ 0 ∷ [] → one ≡ record_of grant → new ≡ take (length bytes - 1) bytes ++ piece
    → new ≡ group_bytes (grants ++ grant ∷ [])
group-push grants grant bytes one piece new is piece_is one_is made =
    let size : length (entries grants) ≡ length bytes - 1 = omega (arith, ap length is, length-append (entries grants) (0 ∷ [])) in
    let front_is : take (length bytes - 1) bytes ≡ entries grants =
    ap (λ (l : List ℕ). take (length bytes - 1) l) is ∙ take_at (entries grants) (0 ∷ []) (length bytes - 1) size in
    made ∙ ap (λ (l : List ℕ). l ++ piece) front_is
    ∙ ap (λ (l : List ℕ). entries grants ++ l) (piece_is ∙ ap (λ (l : List ℕ). 1 ∷ l ++ 0 ∷ []) one_is
    ∙ ap (λ (l : List ℕ). 1 ∷ l ++ 0 ∷ []) (sym (append-nil (record_of grant))))
    ∙ sym (append_assoc (entries grants) (entries (grant ∷ [])) (0 ∷ []))
    ∙ ap (λ (l : List ℕ). l ++ 0 ∷ []) (sym (entries-append grants (grant ∷ [])))

pub each-append : (grants more : List Grant) → AllByRecursion IsReadAgain grants → AllByRecursion IsReadAgain more
    → AllByRecursion IsReadAgain (grants ++ more)
each-append [] more each are = are
each-append (g ∷ grants) more each are = (each.0, each-append grants more each.1 are)
