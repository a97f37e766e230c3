-- That the test of two replies decides whether they are the same.
use Rattle.std.proofs.Common.{◌≡◌, true, ◌&&◌, ◌==◌, Some, refl, sym, ap}
use Rattle.std.proofs.lemmas.Bool.{and_parts, eqb-true, eq-eqb}
use Rattle.std.proofs.lemmas.Option.{same_Some}
use Rattle.std.proofs.lemmas.Slice.Eq.{bytes_eq-Decides}
use Rattle.cell_base.specs.declared.requests.Refusal.{Refusal}
use Rattle.cell_base.specs.declared.requests.Refusal.TheVariants.{Saturated}
use Rattle.cell_base.specs.declared.requests.Reply.{Reply}
use Rattle.cell_base.specs.declared.requests.Reply.TheVariants.{Granted, Refused}
use Rattle.record_text.specs.RefusalWords.{refusal_word, plain_refusal}
use Rattle.shift_checker.specs.Replies.{same_refusal, same_reply}

pub same_itself : (reply : Reply) → same_reply reply reply ≡ true
same_itself Granted = refl
same_itself (Refused (Saturated at count capacity)) =
    rw (eq-eqb at.0 at.0 refl, eq-eqb count count refl, eq-eqb capacity capacity refl) refl
same_itself (Refused why) = refl

-- a refusal that is read by its word alone
by_word : (why read : Refusal) → plain_refusal (refusal_word why) ≡ Some read → why ≡ read
unfolding plain_refusal
by_word (Saturated at count capacity) read is = absurd cc
by_word why read is = same_Some why read is

same_why : (why other : Refusal) → same_refusal why other ≡ true → why ≡ other
unfolding plain_refusal
same_why (Saturated at count capacity) (Saturated r held units) is =
    let both = and_parts ((at.0 == r.0) && (count == held)) (capacity == units) is in
    let front = and_parts (at.0 == r.0) (count == held) both.0 in
    let a : at ≡ r = ap (λ n. record { 0 = n }) (eqb-true at.0 r.0 front.0) in
    let b : count ≡ held = eqb-true count held front.1 in
    let c : capacity ≡ units = eqb-true capacity units both.1 in
    cc
same_why (Saturated at count capacity) other is = absurd cc
same_why why other is = sym (by_word other why (ap plain_refusal (sym ((bytes_eq-Decides (refusal_word why) (refusal_word other)).0 is))))

pub same_when : (reply other : Reply) → same_reply reply other ≡ true → reply ≡ other
same_when Granted Granted is = refl
same_when Granted (Refused why) is = absurd cc
same_when (Refused why) Granted is = absurd cc
same_when (Refused why) (Refused other) is = ap (λ w. Refused w) (same_why why other is)
