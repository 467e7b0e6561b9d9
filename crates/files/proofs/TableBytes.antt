-- The bytes of a table: how many they are, of rows behind rows, and where those of one row stand. Assumes nothing.
use Prim.Native.Nat.{ℕ, suc, ◌+◌, ◌*◌, ◌<◌}
use mathlib.Core.Path.{◌≡◌, refl, sym, ap, ◌∙◌}
use mathlib.Core.List.{List, [], ◌∷◌, ◌++◌, append_assoc}
use native.Mathlib.Omega.{arith}
use lib.ListN.{length, get_or, take, drop, length-append, take-append-drop}
use lib.Seq.{length-take-le, take_at, drop_at, drop-cons}
use Rattle.files.specs.Bytes.{in_bytes}
use Rattle.files.specs.Writing.{header, row_bytes, file_of}
use Rattle.files.proofs.ByteLaws.{bytes_length}

pub header-length : (d t : ℕ) → length (header d t) ≡ 8
unfolding header in_bytes
header-length d t = refl

pub row_bytes-length : (rows : List ℕ) → length (row_bytes rows) ≡ 8 * length rows
unfolding row_bytes
row_bytes-length [] = refl
row_bytes-length (r ∷ rows) = omega (arith, length-append (in_bytes 8 r) (row_bytes rows), bytes_length 8 r, row_bytes-length rows)

pub file_length : (d : ℕ) (table : List ℕ) → length (file_of d table) ≡ 8 + 8 * length table
unfolding file_of
file_length d table =
    length-append (header d (length table)) (row_bytes table) ∙ omega (arith, header-length d (length table), row_bytes-length table)

pub row_bytes-append : (xs ys : List ℕ) → row_bytes (xs ++ ys) ≡ row_bytes xs ++ row_bytes ys
unfolding row_bytes
row_bytes-append [] ys = refl
row_bytes-append (r ∷ xs) ys =
    ap (λ (l : List ℕ). in_bytes 8 r ++ l) (row_bytes-append xs ys) ∙ sym (append_assoc (in_bytes 8 r) (row_bytes xs) (row_bytes ys))

-- ---- the bytes of one row

-- these bytes stand at a place, and others before and behind them
pub record PartAt (part : List ℕ) (place : ℕ) (bytes : List ℕ) : Type 0 where
  pub before : List ℕ
  pub behind : List ℕ
  pub long : length before ≡ place
  pub parts : bytes ≡ before ++ part ++ behind

pub row_part : (d : ℕ) (table : List ℕ) (i : ℕ) → i < length table → PartAt (in_bytes 8 (get_or table i 0)) (8 + 8 * i) (file_of d table)
unfolding file_of row_bytes
row_part d table i h = record {
  before = front ++ row_bytes (take i table);
  behind = row_bytes (drop (suc i) table);
  long =
      length-append front (row_bytes (take i table))
      ∙ omega (arith, header-length d (length table), row_bytes-length (take i table), length-take-le i table (omega arith));
  parts =
      ap (λ (l : List ℕ). front ++ row_bytes l) (sym (take-append-drop i table) ∙ ap (λ (l : List ℕ). take i table ++ l) (drop-cons table i 0 h))
      ∙ ap (λ (l : List ℕ). front ++ l) (row_bytes-append (take i table) (get_or table i 0 ∷ drop (suc i) table))
      ∙ sym (append_assoc front (row_bytes (take i table)) (in_bytes 8 (get_or table i 0) ++ row_bytes (drop (suc i) table)))
      ∙ sym (append_assoc (front ++ row_bytes (take i table)) (in_bytes 8 (get_or table i 0)) (row_bytes (drop (suc i) table)));
}
  where
    front : List ℕ
    front = header d (length table)

pub part_taken : (part : List ℕ) (place : ℕ) (bytes : List ℕ) → PartAt part place bytes → take (length part) (drop place bytes) ≡ part
part_taken part place bytes P =
    ap (λ (l : List ℕ). take (length part) (drop place l)) (P.parts ∙ append_assoc P.before part P.behind)
    ∙ ap (take (length part)) (drop_at P.before (part ++ P.behind) place P.long) ∙ take_at part P.behind (length part) refl
