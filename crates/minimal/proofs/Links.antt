-- The chains are made from the last row on: each candidate goes in front of the chain of those with as many values. Assumes nothing.
use Prim.Native.Nat.{ℕ, zero, ◌+◌, ◌-◌, ◌≤◌, ◌<◌}
use mathlib.Core.Path.{◌≡◌, refl, sym, ap, ◌∙◌, subst}
use mathlib.Core.List.{List}
use native.Mathlib.Decide.{ℕ_discrete}
use native.Mathlib.Omega.{arith}
use lib.Bits.{bit_or}
use lib.Count.{ones}
use lib.ListN.{length, set, length-set, replicate, get_or-replicate}
use Rattle.sets.specs.Sets.{has, single}
use Rattle.sets.specs.Rows.{width}
use Rattle.sets.proofs.Values.{with_old, with_new}
use Rattle.theory.specs.Pairings.{at}
use Rattle.theory.proofs.Places.{at_same, at_other}
use Rattle.minimal.specs.Code.Marking.{Candidate, InChain, FirstFrom, Past, Chains, Sizes}

-- ---- the start

pub heads_past : (rows : List ℕ) (n : ℕ) → n ≡ length rows → Past rows (replicate (width + 1) n)
heads_past rows n e k h = omega (arith, get_or-replicate (width + 1) k n zero (omega arith))

pub chains_start : (rows next head : List ℕ) → length rows ≤ length next → length head ≡ width + 1 → Past rows head
    → Chains rows next head (length rows)
chains_start rows next head l w past = record {
  long = l;
  wide = w;
  heads = λ k h. let p = past k h in record { from = p; gap = λ j a b c. absurd (omega arith); hit = λ b. absurd (omega arith) };
  links = λ i a b. absurd (omega arith);
}

pub sizes_start : (rows : List ℕ) → Sizes rows (length rows) zero
sizes_start rows = record { all = λ j a b. absurd (omega arith) }

-- ---- one row

module _ (rows : List ℕ) (t u : ℕ) (e : t ≡ u + 1) where
  -- place u is put in front of what begins at place t, where row u is not in the chain
  first_down : (k x : ℕ) → (InChain rows k u → ⊥) → FirstFrom rows k t x → FirstFrom rows k u x
  first_down k x out F = record {
    from = omega (arith, F.from);
    gap = λ j a b l. elim (ℕ_discrete j u) [
      | yes q ↦ λ c. out (subst (InChain rows k) q c)
      | no ne ↦ F.gap j (omega arith) b l
    ];
    hit = F.hit;
  }

  -- row u is no candidate
  pub chains_skip : (next head : List ℕ) → (Candidate rows u → ⊥) → Chains rows next head t → Chains rows next head u
  chains_skip next head dim C = record {
    long = C.long;
    wide = C.wide;
    heads = λ k h. first_down k (at head k) (λ c. dim c.0) (C.heads k h);
    links = λ i a b. elim (ℕ_discrete i u) [
      | yes q ↦ λ c. absurd (dim (subst (Candidate rows) q c))
      | no ne ↦ C.links i (omega arith) b
    ];
  }

  pub sizes_skip : (sizes : ℕ) → (Candidate rows u → ⊥) → Sizes rows t sizes → Sizes rows u sizes
  sizes_skip sizes dim S = record {
    all = λ j a b. elim (ℕ_discrete j u) [
      | yes q ↦ λ c. absurd (dim (subst (Candidate rows) q c))
      | no ne ↦ S.all j (omega arith) b
    ];
  }

  pub sizes_more : (sizes : ℕ) → Sizes rows t sizes → Sizes rows u (bit_or sizes (single (ones (at rows u) - 1)))
  sizes_more sizes S = record {
    all = λ j a b c. elim (ℕ_discrete j u) [
      | yes q ↦ ap (λ (x : ℕ). has (bit_or sizes (single (ones (at rows u) - 1))) (ones (at rows x) - 1)) q ∙ with_new sizes (ones (at rows u) - 1)
      | no ne ↦ with_old sizes (ones (at rows u) - 1) (ones (at rows j) - 1) (S.all j (omega arith) b c)
    ];
  }

  -- row u is a candidate
  module _ (next head : List ℕ) (C : Chains rows next head t) (h : u < length rows) (judge : Candidate rows u)
      (few : ones (at rows u) ≤ width) where
    abbrev n : ℕ
    n = ones (at rows u)

    abbrev next' : List ℕ
    next' = set next u (at head (ones (at rows u)))

    abbrev head' : List ℕ
    head' = set head (ones (at rows u)) u

    link_here : FirstFrom rows n (u + 1) (at next' u)
    link_here =
        subst (FirstFrom rows n (u + 1)) (sym (at_same next u (at head n) (omega (arith, C.long))))
        (subst (λ (k : ℕ). FirstFrom rows n k (at head n)) e (C.heads n few))

    head_here : FirstFrom rows n u (at head' n)
    head_here =
        subst (FirstFrom rows n u) (sym (at_same head n u (omega (arith, C.wide))))
        (record { from = omega arith; gap = λ j a b l. absurd (omega arith); hit = λ _. (judge, refl) })

    pub chains_more : Chains rows next' head' u
    chains_more = record {
      long = omega (arith, C.long, length-set next u (at head n));
      wide = length-set head n u ∙ C.wide;
      heads = λ k l. elim (ℕ_discrete k n) [
        | yes q ↦ subst (λ (x : ℕ). FirstFrom rows x u (at head' x)) (sym q) head_here
        | no ne ↦ subst (FirstFrom rows k u) (sym (at_other head n u k ne)) (first_down k (at head k) (λ c. ne (sym c.1)) (C.heads k l))
      ];
      links = λ i a b c. elim (ℕ_discrete i u) [
        | yes q ↦ subst (λ (x : ℕ). FirstFrom rows (ones (at rows x)) (x + 1) (at next' x)) (sym q) link_here
        | no ne ↦ subst (FirstFrom rows (ones (at rows i)) (i + 1)) (sym (at_other next u (at head n) i ne)) (C.links i (omega arith) b c)
      ];
    }
