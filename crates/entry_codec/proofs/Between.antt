-- The bytes between the numbers of a request tell whether sixteen bytes are its record.
use Rattle.std.specs.Prelude.{nat_eq, nat_lt, nat_le, slice_index, Option, Some, if◌then◌else◌}
use Rattle.std.specs.Cmp.Lexicographic.{same_text}
use Rattle.std.specs.Int.{from_be_bytes, to_be_bytes, w16, w32}
use Rattle.std.proofs.Common.{◌≡◌, ℕ, ◌<◌, ◌≤◌, Bool, true, false, ◌&&◌, List, [], ◌∷◌, ◌++◌}
use Rattle.std.proofs.Common.{length, get_or, refl, sym, ◌∙◌, ap, subst, arith, zero, suc}
use Rattle.std.proofs.lemmas.Bool.{false_from_ne_true, and_parts, and_from, eqb-true, eq-eqb, leb-true, le-leb}
use Rattle.std.proofs.lemmas.Cmp.{nat_list_eq_equiv}
use Rattle.std.proofs.lemmas.Nat.{be_bytes_2, be_bytes_4}
use lib.Pointwise.{pointwise}
use Rattle.cell_base.specs.declared.limits.TheConstants.{MAX_BRANCHES}
use Rattle.cell_base.specs.declared.requests.Request.{Request}
use Rattle.cell_base.specs.declared.requests.Request.TheVariants.{Load, Process, Move, Unload, Place}
use Rattle.entry_codec.specs.Decoding.{number_2, number_4, request_in, grant_with, is_record_of}
use Rattle.entry_codec.specs.Records.{fields, flag_of}

-- ---- lists of so many elements

abbrev Over : ℕ → (List ℕ → Type 0) → Type 0
Over zero P = P []
Over (suc n) P = (x : ℕ) → Over n (λ more. P (x ∷ more))

over : (n : ℕ) (P : List ℕ → Type 0) → Over n P → (xs : List ℕ) → length xs ≡ n → P xs
over zero P holds [] is = holds
over zero P holds (x ∷ xs) is = absurd (omega (arith, is))
over (suc n) P holds [] is = absurd (omega (arith, is))
over (suc n) P holds (x ∷ xs) is = over n (λ more. P (x ∷ more)) (holds x) xs (omega (arith, is))

-- ---- bytes as numbers

two : (a b : ℕ) → a < 256 → b < 256 → (i : ℕ) → get_or (a ∷ b ∷ []) i 0 < 256
two a b p q zero = p
two a b p q (suc zero) = q
two a b p q (suc (suc i)) = omega arith

pub four : (a b c d : ℕ) → a < 256 → b < 256 → c < 256 → d < 256 → (i : ℕ) → get_or (a ∷ b ∷ c ∷ d ∷ []) i 0 < 256
four a b c d p q r s zero = p
four a b c d p q r s (suc i) = three i
  where
    three : (i : ℕ) → get_or (b ∷ c ∷ d ∷ []) i 0 < 256
    three zero = q
    three (suc i) = two c d r s i

pub again_2 : (a b : ℕ) → a < 256 → b < 256 → to_be_bytes w16 (from_be_bytes w16 (a ∷ b ∷ [])) ≡ a ∷ b ∷ []
again_2 a b p q = be_bytes_2 (a ∷ b ∷ []) _ refl (two a b p q) refl

pub again_4 : (a b c d : ℕ) → a < 256 → b < 256 → c < 256 → d < 256
    → to_be_bytes w32 (from_be_bytes w32 (a ∷ b ∷ c ∷ d ∷ [])) ≡ a ∷ b ∷ c ∷ d ∷ []
again_4 a b c d p q r s = be_bytes_4 (a ∷ b ∷ c ∷ d ∷ []) _ refl (four a b c d p q r s) refl

pub wide : (a b : ℕ) → a < 256 → b < 256 → to_be_bytes w32 (from_be_bytes w16 (a ∷ b ∷ [])) ≡ 0 ∷ 0 ∷ a ∷ b ∷ []
wide a b p q = be_bytes_4 (0 ∷ 0 ∷ a ∷ b ∷ []) _ refl (four 0 0 a b (omega arith) (omega arith) p q) (omega arith)

-- ---- tests

decides : (test : Bool) (xs ys : List ℕ) → (test ≡ true → xs ≡ ys) → (xs ≡ ys → test ≡ true) → test ≡ pointwise nat_eq xs ys
decides true xs ys found missed = sym (subst (λ (zs : List ℕ). pointwise nat_eq xs zs ≡ true) (found refl) (nat_list_eq_equiv.refl xs))
decides false xs ys found missed = sym (false_from_ne_true _ (λ is. absurd (cc (missed (same_text xs ys (sym is))))))

-- one arm of a chain of tests of a number, by which a request was found
arm : (n kind : ℕ) (found request : Request) (rest : Option Request) (P : Request → Type 0)
    → (if nat_eq kind n then Some found else rest) ≡ Some request → (n ≡ kind → P found) → (rest ≡ Some request → P request) → P request
arm n kind found request rest P is here later = by_test (nat_eq kind n) refl is
  where
    by_test : (b : Bool) → nat_eq kind n ≡ b → (if b then Some found else rest) ≡ Some request → P request
    by_test true same is = subst P (cc is) (here (sym (eqb-true _ _ same)))
    by_test false other is = later is

-- neither a flag nor more than one number after the job
abbrev pub plain : List ℕ → Bool
plain bytes = nat_eq (slice_index bytes 1) 0 && nat_eq (number_2 bytes 12) 0

-- the bytes between the numbers of a request are those of its kind, and its branch is one
abbrev pub between : List ℕ → Request → Bool
between bytes (Load job kind) = plain bytes
between bytes (Process machine) = plain bytes && nat_eq (number_4 bytes 8) 0
between bytes (Move job branch) = nat_lt branch MAX_BRANCHES && plain bytes
between bytes (Unload job) = plain bytes && nat_eq (number_2 bytes 14) 0
between bytes (Place done kind job place) = nat_le (slice_index bytes 1) 1

-- the numbers of sixteen bytes, with what stands between them
module _ (bytes : List ℕ) (long : length bytes ≡ 16) (small : (i : ℕ) → get_or bytes i 0 < 256) where
  abbrev text : ℕ → ℕ → ℕ → List ℕ → List ℕ
  text kind flag job argument = fields kind flag (number_2 bytes 2) (number_4 bytes 4) job argument

  cells : (kind flag job : ℕ) (argument : List ℕ) → kind ≡ slice_index bytes 0 → flag ≡ slice_index bytes 1 → job ≡ number_4 bytes 8
      → argument ≡ slice_index bytes 12 ∷ slice_index bytes 13 ∷ slice_index bytes 14 ∷ slice_index bytes 15 ∷ []
      → text kind flag job argument ≡ bytes
  cells kind flag job argument k f j a = over 16 Cells (λ b0 b1 b2 b3 b4 b5 b6 b7 b8 b9 b10 b11 b12 b13 b14 b15 lt k f j a i.
      k i ∷ f i ∷ again_2 b2 b3 (lt 2) (lt 3) i ++ again_4 b4 b5 b6 b7 (lt 4) (lt 5) (lt 6) (lt 7) i
      ++ (ap (to_be_bytes w32) j ∙ again_4 b8 b9 b10 b11 (lt 8) (lt 9) (lt 10) (lt 11)) i ++ a i) bytes long small k f j a
    where
      Cells : List ℕ → Type 0
      Cells bs = ((i : ℕ) → get_or bs i 0 < 256) → kind ≡ slice_index bs 0 → flag ≡ slice_index bs 1 → job ≡ number_4 bs 8
          → argument ≡ slice_index bs 12 ∷ slice_index bs 13 ∷ slice_index bs 14 ∷ slice_index bs 15 ∷ []
          → fields kind flag (number_2 bs 2) (number_4 bs 4) job argument ≡ bs

  low : to_be_bytes w32 (number_2 bytes 14) ≡ 0 ∷ 0 ∷ slice_index bytes 14 ∷ slice_index bytes 15 ∷ []
  low = wide _ _ (small 14) (small 15)

  -- one number after the job
  short-argument : number_2 bytes 12 ≡ 0 → to_be_bytes w32 (number_2 bytes 14)
      ≡ slice_index bytes 12 ∷ slice_index bytes 13 ∷ slice_index bytes 14 ∷ slice_index bytes 15 ∷ []
  short-argument high =
      let first : 0 ≡ slice_index bytes 12 = omega (arith, high) in
      let second : 0 ≡ slice_index bytes 13 = omega (arith, high) in
      low ∙ λ i. first i ∷ second i ∷ slice_index bytes 14 ∷ slice_index bytes 15 ∷ []

  plain-cells : (kind job : ℕ) → kind ≡ slice_index bytes 0 → job ≡ number_4 bytes 8 → plain bytes ≡ true
      → text kind 0 job (to_be_bytes w32 (number_2 bytes 14)) ≡ bytes
  plain-cells kind job k j is =
      let parts = and_parts _ _ is in
      cells kind 0 job _ k (sym (eqb-true _ _ parts.0)) j (short-argument (eqb-true _ _ parts.1))

  cells-plain : (kind job : ℕ) → text kind 0 job (to_be_bytes w32 (number_2 bytes 14)) ≡ bytes → plain bytes ≡ true
  cells-plain kind job is =
      let flag : 0 ≡ slice_index bytes 1 = ap (λ (xs : List ℕ). slice_index xs 1) is in
      let first : 0 ≡ slice_index bytes 12 =
      sym (ap (λ (xs : List ℕ). slice_index xs 0) low) ∙ ap (λ (xs : List ℕ). slice_index xs 12) is in
      let second : 0 ≡ slice_index bytes 13 =
      sym (ap (λ (xs : List ℕ). slice_index xs 1) low) ∙ ap (λ (xs : List ℕ). slice_index xs 13) is in
      and_from _ _ (eq-eqb _ _ (sym flag)) (eq-eqb _ _ (omega (arith, first, second)))

  plain-record : (kind : ℕ) → kind ≡ slice_index bytes 0
      → plain bytes ≡ pointwise nat_eq (text kind 0 (number_4 bytes 8) (to_be_bytes w32 (number_2 bytes 14))) bytes
  plain-record kind k = decides _ _ _ (plain-cells kind _ k refl) (cells-plain kind _)

  process-record : 2 ≡ slice_index bytes 0
      → (plain bytes && nat_eq (number_4 bytes 8) 0) ≡ pointwise nat_eq (text 2 0 0 (to_be_bytes w32 (number_2 bytes 14))) bytes
  process-record k = decides _ _ _ there back
    where
      there : (plain bytes && nat_eq (number_4 bytes 8) 0) ≡ true → text 2 0 0 (to_be_bytes w32 (number_2 bytes 14)) ≡ bytes
      there is = let parts = and_parts _ _ is in plain-cells 2 0 k (sym (eqb-true _ _ parts.1)) parts.0

      back : text 2 0 0 (to_be_bytes w32 (number_2 bytes 14)) ≡ bytes → (plain bytes && nat_eq (number_4 bytes 8) 0) ≡ true
      back is =
          let job : 0 ≡ number_4 bytes 8 = ap (λ (xs : List ℕ). number_4 xs 8) is in
          and_from _ _ (cells-plain 2 0 is) (eq-eqb _ _ (sym job))

  unload-record : 4 ≡ slice_index bytes 0
      → (plain bytes && nat_eq (number_2 bytes 14) 0) ≡ pointwise nat_eq (text 4 0 (number_4 bytes 8) (to_be_bytes w32 0)) bytes
  unload-record k = decides _ _ _ there back
    where
      there : (plain bytes && nat_eq (number_2 bytes 14) 0) ≡ true → text 4 0 (number_4 bytes 8) (to_be_bytes w32 0) ≡ bytes
      there is =
          let parts = and_parts _ _ is in
          let same : 0 ≡ number_2 bytes 14 = sym (eqb-true _ _ parts.1) in
          ap (λ (n : ℕ). text 4 0 (number_4 bytes 8) (to_be_bytes w32 n)) same ∙ plain-cells 4 _ k refl parts.0

      back : text 4 0 (number_4 bytes 8) (to_be_bytes w32 0) ≡ bytes → (plain bytes && nat_eq (number_2 bytes 14) 0) ≡ true
      back is =
          let same : 0 ≡ number_2 bytes 14 = ap (λ (xs : List ℕ). number_2 xs 14) is in
          let with_low = ap (λ (n : ℕ). text 4 0 (number_4 bytes 8) (to_be_bytes w32 n)) (sym same) ∙ is in
          and_from _ _ (cells-plain 4 _ with_low) (eq-eqb _ _ (sym same))

  place-record : 5 ≡ slice_index bytes 0 → nat_le (slice_index bytes 1) 1
      ≡ pointwise nat_eq (text 5 (flag_of (nat_eq (slice_index bytes 1) 1)) (number_4 bytes 8)
      (to_be_bytes w16 (number_2 bytes 12) ++ to_be_bytes w16 (number_2 bytes 14))) bytes
  place-record k = decides _ _ _ there back
    where
      is_flag : (flag : ℕ) → flag ≤ 1 → flag_of (nat_eq flag 1) ≡ flag
      is_flag zero le = refl
      is_flag (suc zero) le = refl
      is_flag (suc (suc n)) le = absurd (omega (arith, le))

      few : (done : Bool) → flag_of done ≤ 1
      few true = omega arith
      few false = omega arith

      argument : List ℕ
      argument = to_be_bytes w16 (number_2 bytes 12) ++ to_be_bytes w16 (number_2 bytes 14)

      there : nat_le (slice_index bytes 1) 1 ≡ true
          → text 5 (flag_of (nat_eq (slice_index bytes 1) 1)) (number_4 bytes 8) argument ≡ bytes
      there is = cells 5 _ _ _ k (is_flag _ (leb-true _ _ is)) refl
          (λ i. again_2 _ _ (small 12) (small 13) i ++ again_2 _ _ (small 14) (small 15) i)

      back : text 5 (flag_of (nat_eq (slice_index bytes 1) 1)) (number_4 bytes 8) argument ≡ bytes
          → nat_le (slice_index bytes 1) 1 ≡ true
      back is =
          let flag : flag_of (nat_eq (slice_index bytes 1) 1) ≡ slice_index bytes 1 = ap (λ (xs : List ℕ). slice_index xs 1) is in
          le-leb _ _ (subst (λ (n : ℕ). n ≤ 1) flag (few _))

  pub between-is_record : (request : Request) → request_in bytes ≡ Some request
      → between bytes request ≡ is_record_of (grant_with bytes request) bytes
  between-is_record request is =
      arm 1 (slice_index bytes 0) _ request _ Holds is (plain-record 1)
      (λ is. arm 2 (slice_index bytes 0) _ request _ Holds is process-record
      (λ is. arm 3 (slice_index bytes 0) _ request _ Holds is
      (λ k. ap (λ (b : Bool). nat_lt (number_2 bytes 14) MAX_BRANCHES && b) (plain-record 3 k))
      (λ is. arm 4 (slice_index bytes 0) _ request _ Holds is unload-record
      (λ is. arm 5 (slice_index bytes 0) _ request _ Holds is place-record (λ none. absurd (cc none))))))
    where
      Holds : Request → Type 0
      Holds request = between bytes request ≡ is_record_of (grant_with bytes request) bytes
