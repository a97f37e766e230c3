-- The first draws from 1, as another program makes them.
use Rattle.std.proofs.Common.{◌≡◌, ◌/◌, ◌^◌, Ok, Err, refl}
use Rattle.std.specs.Prelude.{codes}
use Rattle.cell_make.specs.Draws.{next_number}
use Rattle.cell_make.specs.Cells.{drawn_resource}
use Rattle.step_text.specs.Words.{number_of}
use Rattle.cell_texts.specs.Numbers.{number_read}

-- before the remainder
first_draw : next_number 1 / 2 ^ 33 ≡ 908834774
unfolding next_number
first_draw = refl

-- so the first resource has three units
first_capacity : (drawn_resource 1 0).capacity ≡ 3
unfolding next_number
first_capacity = refl

-- ---- words

one : number_read (codes "1") ≡ Ok 1
unfolding number_of
one = refl

greatest : number_read (codes "18446744073709551615") ≡ Ok 18446744073709551615
unfolding number_of
greatest = refl

one_more : number_read (codes "18446744073709551616") ≡ Err tt
unfolding number_of
one_more = refl

leading_zero : number_read (codes "01") ≡ Err tt
unfolding number_of
leading_zero = refl

with_a_sign : number_read (codes "+1") ≡ Err tt
unfolding number_of
with_a_sign = refl
