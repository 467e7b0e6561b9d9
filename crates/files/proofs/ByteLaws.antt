-- Numbers in bytes: one byte more, that eight of them fit a word, and that what was put is read again, and what was read put again.
-- Assumes nothing.
use Prim.Native.Nat.{ℕ, zero, suc, ◌+◌, ◌-◌, ◌*◌, ◌/◌, ◌%◌, ◌≤◌, ◌<◌}
use mathlib.Core.Path.{◌≡◌, refl, sym, ap, ap₂, ◌∙◌}
use mathlib.Core.List.{List, [], ◌∷◌, ◌++◌, append_assoc}
use native.Mathlib.Nat.{zero-lt-suc, div-add-mod', div-lt_iff_lt-mul}
use native.Mathlib.Omega.{arith}
use native.Mathlib.Numerals.{add-one}
use lib.Arith.{digits_div, digits_mod}
use lib.ListN.{length, get_or, take, drop, length-append, length-drop}
use lib.Seq.{append_snoc, take-suc, get_or-drop, get_or_at}
use Rattle.files.specs.Bytes.{big, in_bytes, AreBytes}

-- 256 to the power n: numbers of n bytes are below it
unfoldable pub cap : ℕ → ℕ
cap zero = 1
cap (suc n) = cap n * 256

cap_more : (k n : ℕ) → cap n ≤ cap (k + n)
unfolding cap
cap_more zero n = let e : zero + n ≡ n = omega arith in rw e (omega arith)
cap_more (suc k) n = let e : suc k + n ≡ suc (k + n) = omega arith in rw e (omega (arith, cap_more k n))

-- eight bytes fit a word, and so do fewer
pub cap_fits : (n : ℕ) → n ≤ 8 → cap n ≤ 18446744073709551616
unfolding cap
cap_fits n h =
    let k = 8 - n in
    let e : k + n ≡ 8 = omega arith in
    let top : cap (k + n) ≡ 18446744073709551616 = ap cap e in
    omega (arith, cap_more k n)

pub cap_next : (v b n : ℕ) → v < cap n → b < 256 → v * 256 + b < cap (n + 1)
unfolding cap
cap_next v b n h l = rw (add-one n) (omega arith)

pub big_next : (file : List ℕ) (from n : ℕ) → big file from (n + 1) ≡ big file from n * 256 + get_or file (from + n) zero
unfolding big
big_next file from n = rw (add-one n) refl

-- ---- the bytes of a number

pub bytes_length : (n v : ℕ) → length (in_bytes n v) ≡ n
unfolding in_bytes
bytes_length zero v = refl
bytes_length (suc n) v = length-append (in_bytes n (v / 256)) (v % 256 ∷ []) ∙ omega (arith, bytes_length n (v / 256))

-- what was put is read again
pub big_again : (n v : ℕ) (before after : List ℕ) → v < cap n → big (before ++ in_bytes n v ++ after) (length before) n ≡ v
unfolding cap big in_bytes
big_again zero v before after h = omega arith
big_again (suc n) v before after h =
    let byte = v % 256 in
    let top = in_bytes n (v / 256) in
    let front = before ++ top in
    let parted = ap (λ (l : List ℕ). l ++ after) (sym (append_assoc before top (byte ∷ []))) ∙ append_snoc front byte after in
    let long = length-append before top ∙ ap (λ (k : ℕ). length before + k) (bytes_length n (v / 256)) in
    let high = big_again n (v / 256) before (byte ∷ after) ((div-lt_iff_lt-mul (zero-lt-suc 255)).1 h) in
    ap (λ (l : List ℕ). big l (length before) n * 256 + get_or l (length before + n) zero) parted
    ∙ ap₂ (λ (a b : ℕ). a * 256 + b) high (get_or_at front byte after zero (length before + n) long) ∙ div-add-mod' v 256

-- what was read is put again
pub bytes_again : (file : List ℕ) (from n : ℕ) → AreBytes file → from + n ≤ length file → in_bytes n (big file from n) ≡ take n (drop from file)
unfolding big in_bytes
bytes_again file from zero bytes h = refl
bytes_again file from (suc n) bytes h =
    let value = big file from n in
    let byte = get_or file (from + n) zero in
    let small : byte < 256 = (bytes (from + n)).fits in
    ap₂ (λ (a b : ℕ). in_bytes n a ++ (b ∷ [])) (digits_div value small) (digits_mod value small)
    ∙ ap₂ (λ (l : List ℕ) (b : ℕ). l ++ (b ∷ [])) (bytes_again file from n bytes (omega arith)) (sym (get_or-drop from file n zero))
    ∙ sym (take-suc (drop from file) n zero (omega (arith, length-drop from file)))
