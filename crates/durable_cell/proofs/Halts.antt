-- A history with one entry more, and where it holds a halt.
use Rattle.std.specs.Prelude.{Option, Some, None, Bool, true, false, cond}
use Rattle.std.specs.List.{position_from}
use Rattle.std.specs.Option.{option_map}
use Rattle.std.proofs.Common.{◌≡◌, ◌⊎◌, inl, inr, ℕ, ◌+◌, ◌-◌, List, [], ◌∷◌, ◌++◌, length, refl, ◌∙◌, ap, arith}
use Rattle.std.proofs.lemmas.Iterator.Adapters.{position_from-zero}
use Rattle.cell_base.specs.declared.cells.Cell.{Cell}
use Rattle.cell_base.specs.declared.requests.Part.{Part}
use Rattle.cell_base.specs.declared.requests.Request.{Request}
use Rattle.cell_base.specs.declared.requests.Told.{Told}
use Rattle.cell_base.specs.declared.requests.Told.TheVariants.{Answered, Halted}
use Rattle.cell_base.specs.declared.shifts.Entry.{Entry}
use Rattle.cell_base.specs.Histories.{was_halted, state_after_entry, after, IsToldRightly, IsLegal}
use Rattle.durable_cell.specs.Asked.{is_halt, halted_at, halted_in}

-- a history without a halt has none in its first entry, and none after it
no_halt : (first : Entry) (entries : List Entry) → halted_in (first ∷ entries) ≡ None → (is_halt first ≡ false) × (halted_in entries ≡ None)
no_halt first entries is = by_test (is_halt first) (halted_in entries) is
  where
    by_test : (halt : Bool) (later : Option Entry) → cond halt (Some first) later ≡ None → (halt ≡ false) × (later ≡ None)
    by_test true later is = absurd (cc)
    by_test false later is = (refl, is)

pub halted_in-push : (entries : List Entry) (entry : Entry) → halted_in entries ≡ None → halted_in (entries ++ entry ∷ [])
    ≡ halted_in (entry ∷ [])
halted_in-push [] entry none = refl
halted_in-push (first ∷ entries) entry none =
    let both = no_halt first entries none in
    ap (λ (halt : Bool). cond halt (Some first) (halted_in (entries ++ entry ∷ []))) both.0 ∙ halted_in-push entries entry both.1

-- a request that was not halted is told rightly whatever follows
whatever_follows : (cell : Cell) (parts : List Part) (request : Request) (told : Told) (later longer : List Entry) → was_halted told ≡ false
    → IsToldRightly cell parts request told later → IsToldRightly cell parts request told longer
whatever_follows cell parts request (Answered reply) later longer isnt right = right
whatever_follows cell parts request Halted later longer isnt right = absurd (cc)

pub legal-push : (cell : Cell) (parts : List Part) (entries : List Entry) (entry : Entry) → IsLegal cell parts entries
    → halted_in entries ≡ None → IsToldRightly cell (after cell parts entries) entry.request entry.told []
    → IsLegal cell parts (entries ++ entry ∷ [])
legal-push cell parts [] entry legal none right = (right, tt)
legal-push cell parts (first ∷ entries) entry legal none right =
    let both = no_halt first entries none in (
      whatever_follows cell parts first.request first.told entries (entries ++ entry ∷ []) both.0 legal.0,
      legal-push cell (state_after_entry cell parts first.request first.told) entries entry legal.1 both.1 right,
    )

halts_nowhere : (at : ℕ) (entries : List Entry) → halted_in entries ≡ None → position_from is_halt at entries ≡ None
halts_nowhere at [] none = refl
halts_nowhere at (first ∷ entries) none =
    let both = no_halt first entries none in
    ap (λ (halt : Bool). cond halt (Some at) (position_from is_halt (at + 1) entries)) both.0 ∙ halts_nowhere (at + 1) entries both.1

pub halted_at-none : (entries : List Entry) → halted_in entries ≡ None → halted_at entries ≡ None
halted_at-none entries none = position_from-zero is_halt entries ∙ halts_nowhere 0 entries none

-- in a legal history the halt stands last
halts_last : (cell : Cell) (parts : List Part) (at last : ℕ) (entries : List Entry) (entry : Entry) → last + 1 ≡ at + length entries
    → IsLegal cell parts entries → halted_in entries ≡ Some entry → position_from is_halt at entries ≡ Some last
halts_last cell parts at last [] entry len legal is = absurd (cc)
halts_last cell parts at last (first ∷ entries) entry len legal is = by_told first.told legal.0 is
    (λ found. halts_last cell (state_after_entry cell parts first.request first.told) (at + 1) last entries entry (omega
    (arith, len)) legal.1 found)
  where
    by_told : (told : Told) → IsToldRightly cell parts first.request told entries
        → cond (was_halted told) (Some first) (halted_in entries) ≡ Some entry
        → (halted_in entries ≡ Some entry → position_from is_halt (at + 1) entries ≡ Some last)
        → cond (was_halted told) (Some at) (position_from is_halt (at + 1) entries) ≡ Some last
    by_told (Answered reply) right is later = later is
    by_told Halted right is later =
        let same : at ≡ last = omega (arith, len, ap length right.1) in
        ap (λ (n : ℕ). some n) same
      where
        some : ℕ → Option ℕ
        some n = Some n

pub halted_at-last : (cell : Cell) (parts : List Part) (entries : List Entry) (entry : Entry) (last : ℕ) → last + 1 ≡ length entries
    → IsLegal cell parts entries → halted_in entries ≡ Some entry → halted_at entries ≡ Some last
halted_at-last cell parts entries entry last len legal is = position_from-zero is_halt entries
    ∙ halts_last cell parts 0 last entries entry (omega (arith, len)) legal is

-- a history with a halt has an entry
pub halted_has_entry : (entries : List Entry) (entry : Entry) → halted_in entries ≡ Some entry → (length entries - 1) + 1 ≡ length entries
halted_has_entry [] entry is = absurd (cc)
halted_has_entry (first ∷ entries) entry is = omega arith

-- an option that stands beside another
pub beside_none : {A B C : Type 0} (f : A → C) (g : B → C) (a : Option A) (b : Option B) → option_map f a ≡ option_map g b → a
    ≡ None → b ≡ None
beside_none f g a None same none = refl
beside_none f g None (Some y) same none = absurd (cc)
beside_none f g (Some x) (Some y) same none = absurd (cc)

pub beside_some : {A B C : Type 0} (f : A → C) (g : B → C) (a : Option A) (b : Option B) → option_map f a ≡ option_map g b
    → (a ≡ None) ⊎ ((y : B) × (b ≡ Some y))
beside_some f g None b same = inl refl
beside_some f g (Some x) None same = absurd (cc)
beside_some f g (Some x) (Some y) same = inr (y, refl)
