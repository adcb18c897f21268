-- std's words for the bytes of a number, lowest first, are `decode` and `encode` of specs/, and those for its signs `signed` and `unsigned`.
use mathlib.Core.Path.{◌≡◌, refl, sym, ap, ◌∙◌}
use mathlib.Core.List.{List, [], ◌∷◌, ◌++◌}
use mathlib.Core.Logic.{⊎_elim}
use Prim.Native.Nat.{ℕ, zero, suc, ◌+◌, ◌-◌, ◌*◌, ◌/◌, ◌%◌, ◌^◌, ◌<◌}
use native.Mathlib.Nat.{pow-suc, mul_assoc, mul_comm, div-div-eq-div-mul, eq-zero-or-pos, div-one}
use native.Mathlib.Omega.{arith}
use lib.ListN.{length, take, get_or}
use lib.Seq.{take-suc, take-length, length-take-le}
use lib.IntN.{ℤ, pos, negsuc}
use borrow.Author.Tests.{lt-ltb, le-ltb}
use mir.Syntax.{Width, w8, w16, w32, w64, w128}
use mir.Val.{bits, bytes, hbits, to_z, of_z}
use mir.ValLaws.{pow-bits}
use Rattle.std.specs.Int.{byte_at, byte_worth, bytes_low_first, sum_through, from_le_bytes, to_le_bytes}
use Rattle.codec.specs.LittleEndian.{decode, encode, signed, unsigned}
use Rattle.codec.specs.Laws.{minus}

-- ---- from bytes
decode_last : (bs : List ℕ) (b : ℕ) → decode (bs ++ b ∷ []) ≡ decode bs + b * 256 ^ length bs
unfolding decode
decode_last [] b = omega arith
decode_last (a ∷ bs) b =
    let e : b * 256 ^ suc (length bs) ≡ 256 * (b * 256 ^ length bs) = rw (pow-suc, ← mul_assoc, mul_comm) in
    omega (arith, decode_last bs b, e)

worth : (i b : ℕ) → byte_worth i b ≡ b * 256 ^ i
worth zero b = omega arith
worth (suc i) b = refl

summed : (bs : List ℕ) (k : ℕ) → k < length bs → sum_through (λ i. byte_worth i (get_or bs i 0)) k ≡ decode (take (suc k) bs)
unfolding decode
summed bs zero h = rw (take-suc bs 0 0 h) (omega arith)
summed bs (suc k) h = rw (summed bs k (omega arith), take-suc bs (suc k) 0 h, decode_last, length-take-le (suc k) bs (omega arith))

pub from_4 : (bs : List ℕ) → length bs ≡ 4 → from_le_bytes w32 bs ≡ decode bs
from_4 bs e = summed bs 3 (omega arith) ∙ rw (← e) (ap decode (take-length bs))

pub from_8 : (bs : List ℕ) → length bs ≡ 8 → from_le_bytes w64 bs ≡ decode bs
from_8 bs e = summed bs 7 (omega arith) ∙ rw (← e) (ap decode (take-length bs))

-- ---- to bytes
byte_is : (i n : ℕ) → byte_at i n ≡ n / 256 ^ i % 256
byte_is zero n = ap (λ m. m % 256) (sym (div-one n))
byte_is (suc i) n = refl

low_first : (i k n : ℕ) → bytes_low_first i k n ≡ encode k (n / 256 ^ i)
unfolding encode
low_first i zero n = refl
low_first i (suc k) n = rw (byte_is i n, low_first (suc i) k n, div-div-eq-div-mul n (256 ^ i) 256, ← pow-suc)

pub to_4 : (n : ℕ) → to_le_bytes w32 n ≡ encode 4 n
to_4 n = low_first 0 4 n ∙ ap (encode 4) (div-one n)

pub to_8 : (n : ℕ) → to_le_bytes w64 n ≡ encode 8 n
to_8 n = low_first 0 8 n ∙ ap (encode 8) (div-one n)

-- ---- the signs, at any width
full : (w : Width) → 256 ^ bytes w ≡ 2 ^ bits w
full w8 = refl
full w16 = refl
full w32 = refl
full w64 = refl
full w128 = refl

module _ (w : Width) where
  half : 256 ^ bytes w / 2 ≡ 2 ^ hbits w
  half = omega (arith, full w, pow-bits w)

  -- the bits n as a signed number
  pub reads-signed : (n : ℕ) → n < 2 ^ bits w → to_z w n ≡ signed (bytes w) n
  unfolding signed
  reads-signed n h =
      let m = 2 ^ hbits w in
      rw (half, full w)
      (⊎_elim
      (λ (high : m - n ≡ 0). simp (le-ltb n m (omega arith), minus n (2 ^ bits w) h))
      (λ (low : 0 < m - n). simp (lt-ltb n m (omega arith)))
      (eq-zero-or-pos (m - n)))

  -- and the bits of a signed number
  pub bits-unsigned : (x : ℤ) → of_z w x ≡ unsigned (bytes w) x
  unfolding unsigned
  bits-unsigned (pos n) = refl
  bits-unsigned (negsuc m) = rw (full w)
