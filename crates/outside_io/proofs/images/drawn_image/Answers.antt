-- Byte after byte the image is the drawn one, which is an image.
use Rattle.std.proofs.Common.{◌≡◌, ℕ, map, sym, ◌∙◌, ap, subst, arith}
use Rattle.std.specs.List.{range_with_len}
use Rattle.outside_io.specs.DrawnImages.{drawn_byte, drawn_image}
use Rattle.outside_io.specs.Images.{IsImage}
use Rattle.outside_io.specs.Replayed.{state_of}
use Rattle.outside_io.proofs.Drawing.{after-one, draws_more, bytes_more, drawn_is_image}
use Rattle.outside_io.proofs.images.drawn_image.Goals as goal

pub loop-k-init : goal.loop-k-init
loop-k-init c = record {
  bytes = c.new-image.ensures.items;
  number = c.drawn_length-size.ensures.number ∙ sym (after-one c.args.number);
}

pub loop-k-preserved : goal.loop-k-preserved
loop-k-preserved c =
    let state = state_of c.args.state.now in
    let so_far = c.loop-k.invariant in
    record {
      bytes = c.in_ok-push.ensures.items
          ∙ bytes_more state c.args.number c.loop-k.x c.loop-k.k c.drawn_byte.result _ so_far.bytes so_far.number c.drawn_byte.ensures.byte;
      number = c.drawn_byte.ensures.number ∙ draws_more state.written c.args.number c.loop-k.x c.loop-k.k so_far.number;
    }

pub returns-clause-drawn : goal.returns-clause-drawn
unfolding drawn_image
returns-clause-drawn c =
    let state = state_of c.args.state.now in
    let ended : c.loop-k.k ≡ c.drawn_length-size.result = omega (arith, c.loop-k.auto.k-end, c.loop-k-test.false) in
    c.loop-k.invariant.bytes
    ∙ ap (λ (n : ℕ). map (drawn_byte state c.args.number) (range_with_len 0 n)) (ended ∙ c.drawn_length-size.ensures.drawn)

pub returns-clause-image : goal.returns-clause-image
returns-clause-image c =
    let state = state_of c.args.state.now in
    subst (IsImage state) (sym (returns-clause-drawn c)) (drawn_is_image state c.args.number c.requires.grown)
