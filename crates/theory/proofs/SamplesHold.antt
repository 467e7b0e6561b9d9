-- P1 to P10 by one statement: the definitions, computed, keep what the table of the request says.
-- Also the two families that it names. Assumes nothing.
use mathlib.Core.Path.{◌≡◌, refl}
use mathlib.Core.List.{[], ◌∷◌, map, flat_map}
use Rattle.sets.specs.Sets.{has, union, subset, proper}
use Rattle.theory.specs.Family.{values, selections, choices, value_set, family}
use Rattle.theory.specs.Pairings.{mates, among, once, onces, pairings, size, most, rank}
use Rattle.theory.specs.Kept.{pick, minimal, firsts_after, firsts, try, tries, marks, positions, kept}
use Rattle.theory.specs.Samples.{Sample, samples, ab, c, cd, ce, d}

pub samples_hold : map (λ (k : Sample). kept 6 k.view) samples ≡ map (λ (k : Sample). k.keeps) samples
unfolding flat_map has subset proper values selections mates among once onces pairings size most rank pick minimal firsts_after
    firsts try tries marks positions kept
samples_hold = refl

-- 'The family of P5 is {cd}, {cde}', each once for each choice that gives it
pub family_P5 : family 6 (c ∷ d ∷ cd ∷ ce ∷ []) ≡ cd ∷ 0b11100 ∷ cd ∷ 0b11100 ∷ []
unfolding flat_map has union values selections choices value_set family
family_P5 = refl

-- 'That of P3 is {a}, {b}, {ab}'
pub family_P3 : family 6 (ab ∷ ab ∷ []) ≡ 0b1 ∷ 0b11 ∷ 0b11 ∷ 0b10 ∷ []
unfolding flat_map has union values selections choices value_set family
family_P3 = refl
