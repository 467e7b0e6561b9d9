-- A number's bytes put into a buffer, the last byte first, and a buffer whose front is written part by part: a header, rows, a file.
-- Assumes nothing.
use Prim.Native.Nat.{ℕ, zero, suc, ◌+◌, ◌-◌, ◌*◌, ◌/◌, ◌%◌, ◌≤◌, ◌<◌}
use mathlib.Core.Path.{◌≡◌, refl, sym, ap, ap₂, ◌∙◌, subst}
use mathlib.Core.List.{List, [], ◌∷◌, ◌++◌, append-nil, append_assoc}
use native.Mathlib.Nat.{not-suc-le-zero}
use native.Mathlib.Numerals.{add-one}
use native.Mathlib.Omega.{arith}
use lib.ListN.{length, get_or, take, drop, set, length-append, length-set, take-append-drop}
use lib.Seq.{length-take-le, length_front, take-length, take-suc, append_snoc, set_at, take_at, drop_at, drop-drop}
use Rattle.files.specs.Bytes.{in_bytes}
use Rattle.files.specs.Writing.{header, row_bytes, file_of}
use Rattle.files.proofs.ByteLaws.{bytes_length}
use Rattle.files.proofs.TableBytes.{header-length, row_bytes-length, row_bytes-append}

-- ---- the bytes of one number

module _ (old : List ℕ) (from n value : ℕ) where
  -- so many bytes are left to put, which are those of the rest of the number; those behind them are done
  pub record Putting (left rest : ℕ) (buffer : List ℕ) : Type 0 where
    pub done : List ℕ
    pub some : left ≤ n
    pub parts : buffer ≡ take (from + left) old ++ done ++ drop (from + n) old
    pub whole : in_bytes left rest ++ done ≡ in_bytes n value
    pub long : length buffer ≡ length old

  pub putting_start : Putting n value old
  putting_start = record {
    done = [];
    some = omega arith;
    parts =
        sym (take-append-drop (from + n) old) ∙ ap (λ (l : List ℕ). l ++ drop (from + n) old) (sym (append-nil (take (from + n) old)));
    whole = append-nil (in_bytes n value);
    long = refl;
  }

  module _ (room : from + n ≤ length old) where
    more : (left rest : ℕ) (buffer : List ℕ) → Putting (suc left) rest buffer
        → Putting left (rest / 256) (set buffer (from + left) (rest % 256))
    unfolding in_bytes
    more left rest buffer P = record {
      done = rest % 256 ∷ P.done;
      some = omega (arith, P.some);
      parts =
          ap (λ (l : List ℕ). set l (from + left) (rest % 256)) split
          ∙ set_at (take (from + left) old) here (P.done ++ drop (from + n) old) (rest % 256) (from + left) front
          ∙ sym (append_assoc (take (from + left) old) (rest % 256 ∷ P.done) (drop (from + n) old));
      whole = sym (append_assoc (in_bytes left (rest / 256)) (rest % 256 ∷ []) P.done) ∙ P.whole;
      long = length-set buffer (from + left) (rest % 256) ∙ P.long;
    }
      where
        here : ℕ
        here = get_or old (from + left) 0

        front : length (take (from + left) old) ≡ from + left
        front = length-take-le (from + left) old (omega (arith, P.some))

        split : buffer ≡ take (from + left) old ++ here ∷ (P.done ++ drop (from + n) old)
        split =
            let e : from + suc left ≡ suc (from + left) = omega arith in
            P.parts
            ∙ ap (λ (l : List ℕ). l ++ P.done ++ drop (from + n) old)
            (ap (λ (k : ℕ). take k old) e ∙ take-suc old (from + left) 0 (omega (arith, P.some)))
            ∙ append_assoc (take (from + left) old ++ (here ∷ [])) P.done (drop (from + n) old)
            ∙ append_snoc (take (from + left) old) here (P.done ++ drop (from + n) old)

    pub putting_next : (left rest : ℕ) (buffer : List ℕ) → 0 < left → Putting left rest buffer
        → Putting (left - 1) (rest / 256) (set buffer (from + (left - 1)) (rest % 256))
    putting_next zero rest buffer h P = absurd (not-suc-le-zero h)
    putting_next (suc left) rest buffer h P = let e : suc left - 1 ≡ left = omega arith in rw e (more left rest buffer P)

  pub putting_end : (left rest : ℕ) (buffer : List ℕ) → left ≡ zero → Putting left rest buffer
      → buffer ≡ take from old ++ in_bytes n value ++ drop (from + n) old
  unfolding in_bytes
  putting_end left rest buffer e P =
      let none : in_bytes left rest ≡ [] = ap (λ (k : ℕ). in_bytes k rest) e in
      let bytes = ap (λ (l : List ℕ). l ++ P.done) (sym none) ∙ P.whole in
      let place : from + left ≡ from = omega arith in
      P.parts ∙ ap₂ (λ (k : ℕ) (l : List ℕ). take k old ++ l ++ drop (from + n) old) place bytes

-- ---- a buffer whose front is written

-- the front stands in its first k bytes, and the rest is as it was
pub record Front (front : List ℕ) (k : ℕ) (old buffer : List ℕ) : Type 0 where
  pub size : length front ≡ k
  pub parts : buffer ≡ front ++ drop k old

module _ (front : List ℕ) (k : ℕ) (old buffer : List ℕ) (F : Front front k old buffer) where
  -- bytes put right behind it
  pub front_next : (x : List ℕ) (n : ℕ) (after : List ℕ) → length x ≡ n → after ≡ take k buffer ++ x ++ drop (k + n) buffer
      → Front (front ++ x) (k + n) old after
  front_next x n after e put = record {
    size = length-append front x ∙ ap₂ (λ (a b : ℕ). a + b) F.size e;
    parts = put ∙ ap₂ (λ (a b : List ℕ). a ++ x ++ b) first rest;
  }
    where
      first : take k buffer ≡ front
      first = ap (take k) F.parts ∙ take_at front (drop k old) k F.size

      rest : drop (k + n) buffer ≡ drop (k + n) old
      rest =
          sym (drop-drop n k buffer) ∙ ap (drop n) (ap (drop k) F.parts ∙ drop_at front (drop k old) k F.size) ∙ drop-drop n k old

  pub front_long : k ≤ length old → length buffer ≡ length old
  front_long h = ap length F.parts ∙ length_front old front k (F.size ∙ sym (length-take-le k old h))

-- nothing is written yet
front_start : (old : List ℕ) → Front [] zero old old
front_start old = record { size = refl; parts = refl }

-- ---- the header, in four parts

pub header_put : (d t : ℕ) (old mark version values after : List ℕ)
    → mark ≡ take 0 old ++ in_bytes 3 0x505654 ++ drop 3 old
    → version ≡ take 3 mark ++ in_bytes 2 1 ++ drop 5 mark
    → values ≡ take 5 version ++ in_bytes 1 d ++ drop 6 version
    → after ≡ take 6 values ++ in_bytes 2 t ++ drop 8 values
    → after ≡ header d t ++ drop 8 old
unfolding header
header_put d t old mark version values after p q r s =
    let one = front_next [] 0 old old (front_start old) (in_bytes 3 0x505654) 3 mark (bytes_length 3 0x505654) p in
    let two = front_next _ 3 old mark one (in_bytes 2 1) 2 version (bytes_length 2 1) q in
    let three = front_next _ 5 old version two (in_bytes 1 d) 1 values (bytes_length 1 d) r in
    (front_next _ 6 old values three (in_bytes 2 t) 2 after (bytes_length 2 t) s).parts

-- ---- the rows, one by one

module _ (old rows : List ℕ) where
  -- the first n rows stand behind the first 8 bytes
  abbrev pub Saving : ℕ → List ℕ → Type 0
  Saving n buffer = Front (take 8 old ++ row_bytes (take n rows)) (8 + 8 * n) old buffer

  pub saving_start : 8 ≤ length old → Saving zero old
  unfolding row_bytes
  saving_start h = record {
    size = ap length (append-nil (take 8 old)) ∙ length-take-le 8 old h;
    parts = sym (take-append-drop 8 old) ∙ ap (λ (l : List ℕ). l ++ drop 8 old) (sym (append-nil (take 8 old)));
  }

  pub saving_next : (n row : ℕ) (buffer after : List ℕ) → n < length rows → Saving n buffer → row ≡ get_or rows n 0
      → after ≡ take (8 + 8 * n) buffer ++ in_bytes 8 row ++ drop (8 + 8 * n + 8) buffer → Saving (n + 1) after
  unfolding row_bytes
  saving_next n row buffer after h S e put =
      subst (λ (l : List ℕ). Front l (8 + 8 * (n + 1)) old after) all
      (subst (λ (k : ℕ). Front (take 8 old ++ row_bytes (take n rows) ++ in_bytes 8 row) k old after) count
      (front_next (take 8 old ++ row_bytes (take n rows)) (8 + 8 * n) old buffer S (in_bytes 8 row) 8 after (bytes_length 8 row) put))
    where
      count : 8 + 8 * n + 8 ≡ 8 + 8 * (n + 1)
      count = omega arith

      more : row_bytes (take (n + 1) rows) ≡ row_bytes (take n rows) ++ in_bytes 8 row
      more =
          ap (λ (k : ℕ). row_bytes (take k rows)) (add-one n) ∙ ap row_bytes (take-suc rows n 0 h)
          ∙ row_bytes-append (take n rows) (get_or rows n 0 ∷ [])
          ∙ ap (λ (l : List ℕ). row_bytes (take n rows) ++ l) (append-nil (in_bytes 8 (get_or rows n 0)) ∙ ap (in_bytes 8) (sym e))

      all : take 8 old ++ row_bytes (take n rows) ++ in_bytes 8 row ≡ take 8 old ++ row_bytes (take (n + 1) rows)
      all = append_assoc (take 8 old) (row_bytes (take n rows)) (in_bytes 8 row) ∙ ap (λ (l : List ℕ). take 8 old ++ l) (sym more)

  pub saving_end : (n : ℕ) (buffer : List ℕ) → n ≡ length rows → Saving n buffer
      → buffer ≡ take 8 old ++ row_bytes rows ++ drop (8 + 8 * length rows) old
  saving_end n buffer e S =
      let all = ap (λ (k : ℕ). take k rows) e ∙ take-length rows in
      S.parts ∙ (λ i. take 8 old ++ row_bytes (all i) ++ drop (8 + 8 * e i) old)

-- ---- the file

pub file_put : (d t : ℕ) (rows old headed after : List ℕ) → t ≡ length rows → headed ≡ header d t ++ drop 8 old
    → after ≡ take 8 headed ++ row_bytes rows ++ drop (8 + 8 * length rows) headed → after ≡ file_of d rows ++ drop (8 + 8 * t) old
unfolding file_of
file_put d t rows old headed after e p q =
    let front : Front (header d t) 8 old headed = record { size = header-length d t; parts = p } in
    let all = front_next (header d t) 8 old headed front (row_bytes rows) (8 * length rows) after (row_bytes-length rows) q in
    all.parts ∙ ap₂ (λ (m n : ℕ). header d m ++ row_bytes rows ++ drop (8 + 8 * n) old) e (sym e)
