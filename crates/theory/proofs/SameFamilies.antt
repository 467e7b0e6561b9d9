-- Two lists of rows with the same family:
-- each row of one has a subset in the other (Lemma 3.1), a minimal row a copy, and their ranks are the same. Assumes nothing.
use Prim.Native.Nat.{ℕ, zero, suc, ◌≤◌, ◌<◌}
use mathlib.Core.Path.{◌≡◌, refl, sym, ap, ◌∙◌, subst}
use mathlib.Core.Logic.{◌⊎◌, inl, inr}
use mathlib.Core.Bool.{Bool, true, false}
use mathlib.Core.List.Memᴰ
use mathlib.Core.List.{List, [], ◌∷◌, Memᴰ}
use native.Mathlib.Nat.{suc-ne-zero, suc_inj}
use native.Mathlib.Omega.{arith}
use lib.ListN.{length}
use Rattle.sets.specs.Sets.{has, subset, within}
use Rattle.sets.proofs.Bools.{true_or_false, not_both}
use Rattle.sets.proofs.Subsets.{has-subset, subset_trans, subset_antisym, subset_same}
use Rattle.sets.proofs.ValuesBelow.{within_some, within_has}
use Rattle.theory.specs.Family.{value_set, SameFamily, Rows}
use Rattle.theory.specs.Pairings.{rank, at, In, Seated, Pairing, Meets, Admits}
use Rattle.theory.specs.Kept.{minimal}
use Rattle.theory.proofs.Places.{search_below, seated?, Mate, mate?, mem_place, mem_some}
use Rattle.theory.proofs.PairingSteps.{taken}
use Rattle.theory.proofs.Sizes.{size_by_values, size_by_rows}
use Rattle.theory.proofs.Enumerations.{OfRank, values_in_lem, rank_bound, rank_met}
use Rattle.theory.proofs.FamilyIff.{value_in, value_out, Choice, choice_family, family-admits, admits_family}
use Rattle.theory.proofs.FamilyByRank.{family-row}
use Rattle.theory.proofs.MinimalRows.{minimal_out}

pub same_sym : (d : ℕ) (xs ys : List ℕ) → SameFamily d xs ys → SameFamily d ys xs
same_sym d xs ys e s = ((e s).1, (e s).0)

-- ---- values of rows

row_in : (d r v : ℕ) → within d r ≡ true → has r v ≡ true → In d r v
row_in d r v w e = (within_has d r v w e, e)

row_some : (d r : ℕ) → within d r ≡ true → (v : ℕ) × In d r v
row_some d r w = let t = within_some d r w in (t.0, row_in d r t.0 w t.1)

-- a row that is no subset of m has a value that m lacks
row_outside : (d r m : ℕ) → within d r ≡ true → subset r m ≡ false → (v : ℕ) × In d r v × (has m v ≡ false)
row_outside d r m w e = go (search_below (λ v. (has r v ≡ true) × (has m v ≡ false)) (λ v. has r v ≡ true → has m v ≡ true) test d)
  where
    test : (v : ℕ) → ((has r v ≡ true) × (has m v ≡ false)) ⊎ (has r v ≡ true → has m v ≡ true)
    test v = elim (true_or_false (has m v)) [
      | inl t ↦ inr (λ f. t)
      | inr f ↦ elim (true_or_false (has r v)) [ inl t ↦ inl (t, f) | inr g ↦ inr (λ t. absurd (not_both t g)) ]
    ]

    go : ((v : ℕ) × (v < d) × ((has r v ≡ true) × (has m v ≡ false))) ⊎ ((v : ℕ) → v < d → has r v ≡ true → has m v ≡ true)
        → (v : ℕ) × In d r v × (has m v ≡ false)
    go (inl t) = (t.0, (t.1, t.2.0), t.2.1)
    go (inr all) = absurd (not_both (has-subset r m (λ v f. all v (within_has d r v w f) f)) e)

-- ---- choices of values with a property

choose : (d : ℕ) (rows : List ℕ) (P : ℕ → Type 0) → ((r : ℕ) → Memᴰ r rows → (v : ℕ) × In d r v × P v)
    → (c : List ℕ) × Choice d rows c × ((v : ℕ) → Memᴰ v c → P v)
choose d [] P f = ([], tt, λ v m. absurd (Memᴰ.not-nil m))
choose d (r ∷ rows) P f =
    let t = f r (Memᴰ.head refl) in
    let k = choose d rows P (λ q m. f q (Memᴰ.tail m)) in
    (t.0 ∷ k.0, (values_in_lem d r t.0 t.1, k.1), λ v m. elim (Memᴰ.cases_cons m) [ inl e ↦ subst P (sym e) t.2 | inr l ↦ k.2 v l ])

-- one of the list passes the test, or none does
one_or_none : (f : ℕ → Bool) (l : List ℕ) → ((x : ℕ) × Memᴰ x l × (f x ≡ true)) ⊎ ((x : ℕ) → Memᴰ x l → f x ≡ false)
one_or_none f [] = inr (λ x m. absurd (Memᴰ.not-nil m))
one_or_none f (y ∷ l) = go (true_or_false (f y)) (one_or_none f l)
  where
    go : (f y ≡ true) ⊎ (f y ≡ false) → ((x : ℕ) × Memᴰ x l × (f x ≡ true)) ⊎ ((x : ℕ) → Memᴰ x l → f x ≡ false)
        → ((x : ℕ) × Memᴰ x (y ∷ l) × (f x ≡ true)) ⊎ ((x : ℕ) → Memᴰ x (y ∷ l) → f x ≡ false)
    go (inl e) q = inl (y, Memᴰ.head refl, e)
    go (inr e) (inl t) = inl (t.0, Memᴰ.tail t.1, t.2)
    go (inr e) (inr none) = inr (λ x m. elim (Memᴰ.cases_cons m) [ inl s ↦ ap f s ∙ e | inr k ↦ none x k ])

-- ---- the values of a pairing

seated_of : List ℕ → List ℕ
seated_of [] = []
seated_of (zero ∷ p) = seated_of p
seated_of (suc v ∷ p) = v ∷ seated_of p

seated_in : (p : List ℕ) (v i : ℕ) → at p i ≡ suc v → Memᴰ v (seated_of p)
unfolding seated_of
seated_in [] v i e = absurd (suc-ne-zero v (sym e))
seated_in (zero ∷ p) v zero e = absurd (suc-ne-zero v (sym e))
seated_in (suc u ∷ p) v zero e = Memᴰ.head (sym (suc_inj e))
seated_in (zero ∷ p) v (suc i) e = seated_in p v i e
seated_in (suc u ∷ p) v (suc i) e = Memᴰ.tail (seated_in p v i e)

seated_out : (p : List ℕ) (v : ℕ) → Memᴰ v (seated_of p) → Seated p v
unfolding seated_of
seated_out [] v m = absurd (Memᴰ.not-nil m)
seated_out (zero ∷ p) v m = let s = seated_out p v m in (suc s.0, s.1)
seated_out (suc u ∷ p) v m = go (λ k. seated_out p v k) (Memᴰ.cases_cons m)
  where
    go : (Memᴰ v (seated_of p) → Seated p v) → (v ≡ u) ⊎ Memᴰ v (seated_of p) → Seated (suc u ∷ p) v
    go rec (inl e) = (zero, ap suc (sym e))
    go rec (inr k) = let s = rec k in (suc s.0, s.1)

-- ---- two lists of rows with the same family

module _ (d : ℕ) (xs ys : List ℕ) (A : Rows d xs) (B : Rows d ys) (same : SameFamily d xs ys) where
  -- where one has a row, the other has
  other_row : (a : ℕ) → Memᴰ a xs → (b : ℕ) × Memᴰ b ys
  other_row a m =
      let c = choose d xs (λ v. Unit {0}) (λ r k. let t = row_some d r (A r k) in (t.0, t.1, tt)) in
      family-row d ys (value_set c.0) ((same (value_set c.0)).0 (choice_family d xs c.0 (mem_some m) c.1))

  -- Lemma 3.1: a choice of the rows of ys that avoids a would give a set that xs has not
  pub row_under : (a : ℕ) → Memᴰ a xs → (b : ℕ) × Memᴰ b ys × (subset b a ≡ true)
  row_under a m = go (one_or_none (λ b. subset b a) ys)
    where
      go : ((b : ℕ) × Memᴰ b ys × (subset b a ≡ true)) ⊎ ((b : ℕ) → Memᴰ b ys → subset b a ≡ false)
          → (b : ℕ) × Memᴰ b ys × (subset b a ≡ true)
      go (inl t) = t
      go (inr none) =
          let c = choose d ys (λ v. has a v ≡ false) (λ r k. row_outside d r a (B r k) (none r k)) in
          let s = value_set c.0 in
          let o = other_row a m in
          let F = family-admits d xs s ((same s).1 (choice_family d ys c.0 (mem_some o.1) c.1)) in
          let t = F.meets a m in
          absurd (not_both t.2.1 (c.2 t.0 (value_out c.0 t.0 t.1)))

  -- the values of a largest pairing of xs are a set of the family
  pub rank_no_less : rank d xs ≤ rank d ys
  rank_no_less = go (mate? (length xs))
    where
      met : OfRank d xs
      met = rank_met d xs

      p : List ℕ
      p = met.0

      P : Pairing d xs p
      P = met.1

      s : ℕ
      s = value_set (seated_of p)

      used : (v : ℕ) → Seated p v → has s v ≡ true
      used v o = value_in (seated_of p) v (seated_in p v o.0 o.1)

      -- a row that they did not meet could be given a mate
      meets : (r : ℕ) → Memᴰ r xs → Meets d s r
      meets r m =
          let i = mem_place xs r m in
          let t = row_some d r (A r m) in
          elim (seated? p t.0) [
            | inl o ↦ (t.0, used t.0 o, t.1)
            | inr none ↦
                let w =
                taken d xs p i.0 t.0 P (λ q Q. omega (arith, met.2, rank_bound d xs q Q)) (omega (arith, i.1, P.fits))
                (subst (λ (k : ℕ). In d k t.0) i.2 t.1) none in
                (w.0, used w.0 (i.0, w.1), subst (λ (k : ℕ). In d k w.0) (sym i.2) (P.holds i.0 w.0 w.1))
          ]

      admitted : Admits d xs s
      admitted = record { meets = meets; mates = p; pairing = P; seated = λ v e. seated_out p v (value_out (seated_of p) v e) }

      go : Mate (length xs) → rank d xs ≤ rank d ys
      go (inl e) = omega (arith, met.2, size_by_rows p, P.fits)
      go (inr t) =
          let F = family-admits d ys s ((same s).0 (admits_family d xs s (omega (arith, t.1)) admitted)) in
          omega (arith, met.2, rank_bound d ys F.mates F.pairing, size_by_values p F.mates P.apart (λ v o. F.seated v (used v o)))

-- a minimal row has a copy in every list with the same family
pub minimal_copy : (d : ℕ) (xs ys : List ℕ) → Rows d xs → Rows d ys → SameFamily d xs ys → (a : ℕ) → Memᴰ a xs → minimal xs a ≡ true
    → Memᴰ a ys
minimal_copy d xs ys A B same a m e =
    let b = row_under d xs ys A B same a m in
    let c = row_under d ys xs B A (same_sym d xs ys same) b.0 b.1 in
    let is-a : c.0 ≡ a = subset_same c.0 a (subset_trans c.0 b.0 a c.2 b.2) (minimal_out xs a c.0 e c.1) in
    let is_b : b.0 ≡ a = subset_antisym b.0 a b.2 (subst (λ (x : ℕ). subset x b.0 ≡ true) is-a c.2) in
    subst (λ (x : ℕ). Memᴰ x ys) is_b b.1
