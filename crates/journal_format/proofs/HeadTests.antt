-- How the tests of a head went, by its answer.
use Rattle.std.specs.Prelude.{Bool, true, false, not, if◌then◌else◌, ◌&&◌, ◌||◌}
use Rattle.std.proofs.Common.{◌≡◌, ◌⊎◌, inl, inr, ℕ, refl}
use Rattle.journal_format.specs.declared.blank.BlankForm.{BlankForm}
use Rattle.journal_format.specs.declared.blank.BlankForm.TheVariants.{Short, Shut, Named}
use Rattle.journal_format.specs.declared.fault.JournalFault.TheVariants.{NotAJournal, Damaged}
use Rattle.journal_format.specs.declared.head.Head.{Head}
use Rattle.journal_format.specs.declared.head.Head.TheVariants.{Blank, Faulty, Open}

-- the head by its tests
abbrev pub head_by : (short shut unnamed named broken : Bool) (size : ℕ) → Head
head_by short shut unnamed named broken size =
    if short then Blank Short
    else if shut then Blank Shut
    else if unnamed then Faulty NotAJournal
    else if named then Blank Named
    else if broken then Faulty (Damaged 9)
    else Open size

pub blank_by : (short shut unnamed named broken : Bool) (size : ℕ) (form : BlankForm)
    → head_by short shut unnamed named broken size ≡ Blank form
    → ((short ≡ true) × (form ≡ Short))
    ⊎ (((short ≡ false) × (shut ≡ true) × (form ≡ Shut)) ⊎ ((unnamed ≡ false) × (named ≡ true) × (form ≡ Named)))
blank_by true shut unnamed named broken size form is = inl (refl, cc)
blank_by false true unnamed named broken size form is = inr (inl (refl, refl, cc))
blank_by false false true named broken size form is = absurd (cc)
blank_by false false false true broken size form is = inr (inr (refl, refl, cc))
blank_by false false false false true size form is = absurd (cc)
blank_by false false false false false size form is = absurd (cc)

pub open_by : (short shut unnamed named broken : Bool) (size found : ℕ) → head_by short shut unnamed named broken size ≡ Open found
    → (unnamed ≡ false) × (named ≡ false) × (broken ≡ false) × (found ≡ size)
open_by true shut unnamed named broken size found is = absurd (cc)
open_by false true unnamed named broken size found is = absurd (cc)
open_by false false true named broken size found is = absurd (cc)
open_by false false false true broken size found is = absurd (cc)
open_by false false false false true size found is = absurd (cc)
open_by false false false false false size found is = (refl, refl, refl, cc)

pub neither : (a b : Bool) → (a || b) ≡ false → (a ≡ false) × (b ≡ false)
neither true b is = absurd (cc)
neither false b is = (refl, is)

pub both_true : (a b : Bool) → not (a && b) ≡ false → (a ≡ true) × (b ≡ true)
both_true true true is = (refl, refl)
both_true true false is = absurd (cc)
both_true false b is = absurd (cc)
