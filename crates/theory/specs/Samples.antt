-- The samples P1 to P10 of the request as one table: a view, and the positions that are kept.
use Rattle.std.specs.Prelude.{ℕ, List, [], ◌∷◌}

pub record Sample : Type 0 where
  pub view : List ℕ
  pub keeps : List ℕ

abbrev sample : List ℕ → List ℕ → Sample
sample v k = record { view = v; keeps = k }

-- the sets of the table: a is value 0, b is 1, and so on
abbrev pub a : ℕ
a = 0b1

abbrev pub ab : ℕ
ab = 0b11

abbrev ac : ℕ
ac = 0b101

abbrev ad : ℕ
ad = 0b1001

abbrev bc : ℕ
bc = 0b110

abbrev bd : ℕ
bd = 0b1010

abbrev pub c : ℕ
c = 0b100

abbrev pub cd : ℕ
cd = 0b1100

abbrev pub ce : ℕ
ce = 0b10100

abbrev pub d : ℕ
d = 0b1000

abbrev de : ℕ
de = 0b11000

abbrev df : ℕ
df = 0b101000

abbrev ef : ℕ
ef = 0b110000

abbrev abc : ℕ
abc = 0b111

abbrev abcd : ℕ
abcd = 0b1111

abbrev pub samples : List Sample
samples =
    sample [] [] ∷
    sample (a ∷ a ∷ []) (0 ∷ []) ∷
    sample (ab ∷ ab ∷ []) (0 ∷ 1 ∷ []) ∷
    sample (ab ∷ ab ∷ ab ∷ []) (0 ∷ 1 ∷ []) ∷
    sample (c ∷ d ∷ cd ∷ ce ∷ []) (0 ∷ 1 ∷ 3 ∷ []) ∷
    sample (d ∷ de ∷ df ∷ ef ∷ []) (0 ∷ 1 ∷ 3 ∷ []) ∷
    sample (abc ∷ ab ∷ c ∷ []) (0 ∷ 1 ∷ 2 ∷ []) ∷
    sample (ab ∷ bc ∷ ac ∷ abc ∷ []) (0 ∷ 1 ∷ 2 ∷ []) ∷
    sample (ab ∷ ac ∷ ad ∷ bc ∷ bd ∷ cd ∷ []) (0 ∷ 1 ∷ 2 ∷ 3 ∷ 4 ∷ 5 ∷ []) ∷
    sample (abc ∷ abc ∷ abcd ∷ []) (0 ∷ 1 ∷ 2 ∷ []) ∷
    []
