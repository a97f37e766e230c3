-- The entries of grants, from which these are read again.
use Rattle.std.specs.Prelude.{Option, None, Vec, replicate}
use Rattle.std.specs.Vec.{vec_capacity}
use Rattle.std.specs.declared.alloc.Global.{Global}
use Rattle.std.specs.List.{AllByRecursion, cons_option, flat_map}
use Rattle.std.proofs.Common.{◌≡◌, ℕ, ◌+◌, ◌*◌, ◌≤◌, List, [], ◌∷◌, ◌++◌, length, set, take, refl, sym, ◌∙◌, ap, subst, arith}
use Rattle.std.proofs.Common.{append_assoc, length-append}
use Rattle.std.proofs.lemmas.List.{take_at}
use Rattle.cell_base.specs.declared.shifts.Grant.{Grant}
use Rattle.entry_codec.specs.Decoding.{grant_of}
use Rattle.journal_format.specs.Journals.{entries, group_bytes, IsReadAgain}
use Rattle.journal_format.proofs.Fronts.{length-entries}
use Rattle.move_journal.specs.declared.group.TheConstants.{MAX_GROUP}
use Rattle.move_journal.specs.Groups.{IsGroup, entry_of, entries_of, grants_in}

none_closed : grant_of (replicate 16 0) ≡ None
unfolding grant_of
none_closed = refl

-- the grants are read again from their entries
pub grants_in-entries_of : (grants : List Grant) → AllByRecursion IsReadAgain grants → grants_in (entries_of grants) ≡ grants
grants_in-entries_of [] are = ap (λ (o : Option Grant). cons_option o []) none_closed
grants_in-entries_of (grant ∷ grants) are =
    ap (λ (o : Option Grant). cons_option o (grants_in (entries_of grants))) are.0
    ∙ ap (λ (l : List Grant). grant ∷ l) (grants_in-entries_of grants are.1)

pub length-entries_of : (grants : List Grant) → length (entries_of grants) ≡ length grants + 1
length-entries_of [] = refl
length-entries_of (grant ∷ grants) = omega (arith, length-entries_of grants)

-- another entry comes last, and the one before it is set
pub set-entries_of : (grants : List Grant) (grant : Grant)
    → set (entries_of grants ++ replicate 17 0 ∷ []) (length grants) (entry_of grant) ≡ entries_of (grants ++ grant ∷ [])
set-entries_of [] grant = refl
set-entries_of (first ∷ grants) grant = ap (λ (l : List (List ℕ)). entry_of first ∷ l) (set-entries_of grants grant)

-- one grant more in the entries
pub pushed : (items new : List (List ℕ)) (at : ℕ) (entry : List ℕ) (grants : List Grant) (grant : Grant) → items ≡ entries_of grants
    → at ≡ length grants → entry ≡ entry_of grant → new ≡ set (items ++ replicate 17 0 ∷ []) at entry → new ≡ entries_of (grants ++ grant ∷ [])
pushed items new at entry grants grant is at_is entry_is made =
    made ∙ (λ i. set (is i ++ replicate 17 0 ∷ []) (at_is i) (entry_is i)) ∙ set-entries_of grants grant

-- entries of no grants are a group that is empty
pub empty_group : (most : ℕ) (entries : Vec (List ℕ) Global) → most ≤ MAX_GROUP → entries.items ≡ replicate 17 0 ∷ []
    → most + 1 ≤ vec_capacity entries → (grants_in entries.items ≡ []) × IsGroup most entries
empty_group most entries bound is room =
    let none : grants_in entries.items ≡ [] = ap grants_in is ∙ grants_in-entries_of [] tt in (
      none,
      record {
        few = omega (arith, ap length none);
        bound = bound;
        entries_are = is ∙ sym (ap entries_of none);
        are_read = subst (AllByRecursion IsReadAgain) (sym none) tt;
        room = room;
      },
    )

flat : (grants : List Grant) → flat_map (λ (entry : List ℕ). entry) (entries_of grants) ≡ entries grants ++ replicate 17 0
flat [] = refl
flat (grant ∷ grants) =
    ap (λ (l : List ℕ). entry_of grant ++ l) (flat grants) ∙ sym (append_assoc (entry_of grant) (entries grants) (replicate 17 0))

-- the bytes of the entries, up to the closed gate
pub bytes-entries_of : (grants : List Grant)
    → take (17 * length grants + 1) (flat_map (λ (entry : List ℕ). entry) (entries_of grants)) ≡ group_bytes grants
bytes-entries_of grants =
    ap (λ (l : List ℕ). take (17 * length grants + 1) l)
    (flat grants ∙ sym (append_assoc (entries grants) (0 ∷ []) (replicate 16 0)))
    ∙ take_at (group_bytes grants) (replicate 16 0) (17 * length grants + 1)
    (omega (arith, length-entries grants, length-append (entries grants) (0 ∷ [])))
