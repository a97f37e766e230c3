-- The bytes after those that were given, up to the end of the piece.
use Rattle.std.proofs.Common.{◌≡◌, ◌+◌, ◌-◌, ◌≤◌, List, ℕ, ◌++◌, length, take, drop, sym, ◌∙◌, ap, arith, length-take, length-drop}
use Rattle.std.proofs.Math.Seq.{take-add}
use Rattle.std.proofs.lemmas.List.{take_at}
use Rattle.outside_io.specs.MemSource.{MemSourceState}
use Rattle.outside_io.proofs.mem_source.MemSourceSource.next_piece.Goals as goal

pub returns-clause-gives : goal.returns-clause-gives
returns-clause-gives c =
    let bytes : List ℕ = c.self.inside.bytes.items in
    let at : ℕ = c.self.inside.at in
    let given : List ℕ = c.args.self.now.given in
    let n : ℕ = c.min-count.result in
    let piece : List ℕ = take n (drop at bytes) in
    let rest : List ℕ = drop n c.args.out.now in
    let few : n ≤ length bytes - at = omega (arith, c.min-count.ensures, c.min.ensures, c.len.ensures) in
    let size : length piece ≡ n = omega (arith, length-take n (drop at bytes), length-drop at bytes, few) in
    let back : at + n - at ≡ n = omega arith in
    let copied = c.copy_from_slice.ensures.after in
    take-add at n bytes
    ∙ ap (λ (source : MemSourceState). source.given ++ piece) c.self.view_is
    ∙ ap (λ (l : List ℕ). given ++ l) (sym (take_at piece rest n size))
    ∙ ap (λ (l : List ℕ). given ++ take n (l ++ rest)) (sym
    (copied ∙ ap (λ (l : List ℕ). take (at + n - at) (drop at l)) c.deref.ensures.value
    ∙ ap (λ (k : ℕ). take k (drop at bytes)) back))
