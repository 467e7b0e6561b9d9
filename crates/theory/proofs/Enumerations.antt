-- The enumerations are exact: `values` has just the values of a row, `selections` just the lists that take one number from each,
-- `pairings` just the pairings; so `rank` is the size of a largest pairing. Assumes nothing.
use Prim.Native.Nat.{ℕ, zero, suc, ◌≤◌, ◌<◌, max}
use mathlib.Core.Path.{◌≡◌, refl, sym, ap, ◌∙◌, subst}
use mathlib.Core.Logic.{◌⊎◌, inl, inr}
use mathlib.Core.Bool.{Bool, true, false, not, cond, false≢true}
use mathlib.Core.List.Memᴰ
use mathlib.Core.List.{List, [], ◌∷◌, ◌++◌, map, flat_map, Memᴰ}
use native.Mathlib.Nat.{not-suc-le-zero, suc_inj, suc-ne-zero}
use native.Mathlib.Decide.{dec_le, dec_lt}
use native.Mathlib.Omega.{arith}
use lib.Dec.{eqb}
use lib.ListN.{length}
use borrow.Author.Tests.{eqb-true, eq-eqb, not-true}
use Rattle.sets.specs.Sets.{has}
use Rattle.sets.proofs.Bools.{or_cases, or_left, or_right, and_left, and_right, and_both, not_both, is_false, false_not}
use Rattle.theory.specs.Family.{values, selections}
use Rattle.theory.specs.Pairings.{mates, among, once, onces, pairings, size, most, rank, at, In, Seated, Pairing}
use Rattle.theory.proofs.PairingSteps.{pairing_nil, pairing_tail, pairing_head, pairing_none, pairing_mate}

-- ---- the values of a row

pub values_in_lem : (d r v : ℕ) → In d r v → Memᴰ v (values d r)
unfolding values
values_in_lem zero r v (h, e) = absurd (not-suc-le-zero h)
values_in_lem (suc d) r v (h, e) = go (λ l. values_in_lem d r v (l, e)) (has r d) refl (dec_lt v d)
  where
    go : (v < d → Memᴰ v (values d r)) → (b : Bool) → has r d ≡ b → Dec (v < d) → Memᴰ v (cond b (values d r ++ d ∷ []) (values d r))
    go rec true f (yes l) = Memᴰ.append_left (d ∷ []) (rec l)
    go rec false f (yes l) = rec l
    go rec true f (no n) = Memᴰ.append_right (values d r) (Memᴰ.head (omega arith))
    go rec false f (no n) = let same : v ≡ d = omega arith in absurd (not_both e (ap (has r) same ∙ f))

pub values_out : (d r v : ℕ) → Memᴰ v (values d r) → In d r v
unfolding values
values_out zero r v m = absurd (Memᴰ.not-nil m)
values_out (suc d) r v m = go (λ k. values_out d r v k) (has r d) refl m
  where
    up : In d r v → In (suc d) r v
    up (h, e) = (omega arith, e)

    last : has r d ≡ true → v ≡ d → In (suc d) r v
    last f e = (omega arith, ap (has r) e ∙ f)

    go : (Memᴰ v (values d r) → In d r v) → (b : Bool) → has r d ≡ b → Memᴰ v (cond b (values d r ++ d ∷ []) (values d r)) → In (suc d) r v
    go rec true f k = elim (Memᴰ.append_cases (values d r) k) [ inl l ↦ up (rec l) | inr l ↦ last f (Memᴰ.eq_of_singleton l) ]
    go rec false f k = up (rec k)

-- ---- selections

flat_in : {x : ℕ} {c : List ℕ} (f : ℕ → List (List ℕ)) {l : List ℕ} → Memᴰ x l → Memᴰ c (f x) → Memᴰ c (flat_map f l)
unfolding flat_map
flat_in {c = c} f (Memᴰ.head {xs = ys} e) m = Memᴰ.append_left (flat_map f ys) (subst (λ (z : ℕ). Memᴰ c (f z)) e m)
flat_in f (Memᴰ.tail {x = y} k) m = Memᴰ.append_right (f y) (flat_in f k m)

flat_out : (f : ℕ → List (List ℕ)) (l c : List ℕ) → Memᴰ c (flat_map f l) → (x : ℕ) × Memᴰ x l × Memᴰ c (f x)
unfolding flat_map
flat_out f [] c m = absurd (Memᴰ.not-nil m)
flat_out f (y ∷ l) c m = go (λ k. flat_out f l c k) (Memᴰ.append_cases (f y) m)
  where
    go : (Memᴰ c (flat_map f l) → (x : ℕ) × Memᴰ x l × Memᴰ c (f x)) → Memᴰ c (f y) ⊎ Memᴰ c (flat_map f l)
        → (x : ℕ) × Memᴰ x (y ∷ l) × Memᴰ c (f x)
    go rec (inl k) = (y, Memᴰ.head refl, k)
    go rec (inr k) = let t = rec k in (t.0, Memᴰ.tail t.1, t.2)

-- c takes one number from each list
abbrev pub Takes : List ℕ → List (List ℕ) → Type 0
Takes [] [] = Unit {0}
Takes [] (l ∷ ls) = ⊥
Takes (x ∷ c) [] = ⊥
Takes (x ∷ c) (l ∷ ls) = Memᴰ x l × Takes c ls

-- x put in front of every list
fronted : List (List ℕ) → ℕ → List (List ℕ)
fronted cs x = map (λ (c : List ℕ). x ∷ c) cs

pub selections_in : (ls : List (List ℕ)) (c : List ℕ) → Takes c ls → Memᴰ c (selections ls)
unfolding selections fronted
selections_in [] [] h = Memᴰ.head refl
selections_in [] (x ∷ c) h = absurd h
selections_in (l ∷ ls) [] h = absurd h
selections_in (l ∷ ls) (x ∷ c) h = flat_in (fronted (selections ls)) h.0 (Memᴰ.map (λ (k : List ℕ). x ∷ k) (selections_in ls c h.1))

pub selections_out : (ls : List (List ℕ)) (c : List ℕ) → Memᴰ c (selections ls) → Takes c ls
unfolding selections fronted
selections_out [] c m = subst (λ (k : List ℕ). Takes k []) (sym (Memᴰ.eq_of_singleton m)) tt
selections_out (l ∷ ls) c m =
    let t = flat_out (fronted (selections ls)) l c m in
    let u = Memᴰ.of_map (λ (k : List ℕ). t.0 ∷ k) (selections ls) t.2 in
    subst (λ (k : List ℕ). Takes k (l ∷ ls)) u.2 (t.1, selections_out ls u.0 u.1)

-- ---- no value twice

pub among_seated : (p : List ℕ) (v : ℕ) → among (suc v) p ≡ true → Seated p v
unfolding among
among_seated [] v e = absurd (false≢true e)
among_seated (y ∷ p) v e = go (λ k. among_seated p v k) (or_cases (eqb (suc v) y) (among (suc v) p) e)
  where
    go : (among (suc v) p ≡ true → Seated p v) → (eqb (suc v) y ≡ true) ⊎ (among (suc v) p ≡ true) → Seated (y ∷ p) v
    go rec (inl f) = (zero, sym (eqb-true (suc v) y f))
    go rec (inr f) = let s = rec f in (suc s.0, s.1)

pub seated_among : (p : List ℕ) (v i : ℕ) → at p i ≡ suc v → among (suc v) p ≡ true
unfolding among
seated_among [] v i e = absurd (suc-ne-zero v (sym e))
seated_among (y ∷ p) v zero e = or_left (eqb (suc v) y) (among (suc v) p) (eq-eqb (suc v) y (sym e))
seated_among (y ∷ p) v (suc i) e = or_right (eqb (suc v) y) (among (suc v) p) (seated_among p v i e)

-- ---- the pairings

mate_in : (d r v : ℕ) → In d r v → Memᴰ (suc v) (mates d r)
unfolding mates
mate_in d r v h = Memᴰ.tail (Memᴰ.map suc (values_in_lem d r v h))

mate_out : (d r v : ℕ) → Memᴰ (suc v) (mates d r) → In d r v
unfolding mates
mate_out d r v m = elim (Memᴰ.cases_cons m) [
  | inl e ↦ absurd (suc-ne-zero v e)
  | inr k ↦ let t = Memᴰ.of_map suc (values d r) k in values_out d r v (subst (λ (u : ℕ). Memᴰ u (values d r)) (suc_inj t.2) t.1)
]

pairing_takes : (d : ℕ) (rows p : List ℕ) → Pairing d rows p → Takes p (map (mates d) rows) × (once p ≡ true)
unfolding once mates
pairing_takes d [] [] P = (tt, refl)
pairing_takes d [] (x ∷ p) P = absurd (suc-ne-zero (length p) P.fits)
pairing_takes d (r ∷ rows) [] P = absurd (suc-ne-zero (length rows) (sym P.fits))
pairing_takes d (r ∷ rows) (zero ∷ p) P = let h = pairing_takes d rows p (pairing_tail d r rows p zero P) in ((Memᴰ.head refl, h.0), h.1)
pairing_takes d (r ∷ rows) (suc v ∷ p) P =
    let h = pairing_takes d rows p (pairing_tail d r rows p (suc v) P) in
    let k = pairing_head d r rows p v P in
    let new : not (among (suc v) p) ≡ true = false_not (among (suc v) p) (is_false (among (suc v) p) (λ e. k.1 (among_seated p v e))) in
    ((mate_in d r v k.0, h.0), and_both (not (among (suc v) p)) (once p) new h.1)

takes_pairing : (d : ℕ) (rows p : List ℕ) → Takes p (map (mates d) rows) → once p ≡ true → Pairing d rows p
unfolding once
takes_pairing d [] [] h e = pairing_nil d
takes_pairing d [] (x ∷ p) h e = absurd h
takes_pairing d (r ∷ rows) [] h e = absurd h
takes_pairing d (r ∷ rows) (zero ∷ p) h e = pairing_none d r rows p (takes_pairing d rows p h.1 e)
takes_pairing d (r ∷ rows) (suc v ∷ p) h e =
    pairing_mate d r rows p v (mate_out d r v h.0)
    (λ s. not_both (seated_among p v s.0 s.1) (not-true (among (suc v) p) (and_left (not (among (suc v) p)) (once p) e)))
    (takes_pairing d rows p h.1 (and_right (not (among (suc v) p)) (once p) e))

onces_in : (p : List ℕ) (ps : List (List ℕ)) → Memᴰ p ps → once p ≡ true → Memᴰ p (onces ps)
unfolding onces
onces_in p [] m e = absurd (Memᴰ.not-nil m)
onces_in p (q ∷ ps) m e = go (λ k. onces_in p ps k e) (once q) refl (Memᴰ.cases_cons m)
  where
    go : (Memᴰ p ps → Memᴰ p (onces ps)) → (b : Bool) → once q ≡ b → (p ≡ q) ⊎ Memᴰ p ps
        → Memᴰ p (cond b (q ∷ onces ps) (onces ps))
    go rec true f (inl s) = Memᴰ.head s
    go rec true f (inr k) = Memᴰ.tail (rec k)
    go rec false f (inl s) = absurd (not_both e (ap once s ∙ f))
    go rec false f (inr k) = rec k

onces_out : (p : List ℕ) (ps : List (List ℕ)) → Memᴰ p (onces ps) → Memᴰ p ps × (once p ≡ true)
unfolding onces
onces_out p [] m = absurd (Memᴰ.not-nil m)
onces_out p (q ∷ ps) m = go (λ k. onces_out p ps k) (once q) refl m
  where
    up : Memᴰ p ps × (once p ≡ true) → Memᴰ p (q ∷ ps) × (once p ≡ true)
    up (k, e) = (Memᴰ.tail k, e)

    go : (Memᴰ p (onces ps) → Memᴰ p ps × (once p ≡ true)) → (b : Bool) → once q ≡ b
        → Memᴰ p (cond b (q ∷ onces ps) (onces ps)) → Memᴰ p (q ∷ ps) × (once p ≡ true)
    go rec true f k = elim (Memᴰ.cases_cons k) [ inl s ↦ (Memᴰ.head s, ap once s ∙ f) | inr l ↦ up (rec l) ]
    go rec false f k = up (rec k)

pub pairings_in : (d : ℕ) (rows p : List ℕ) → Pairing d rows p → Memᴰ p (pairings d rows)
unfolding pairings
pairings_in d rows p P =
    let h = pairing_takes d rows p P in
    onces_in p (selections (map (mates d) rows)) (selections_in (map (mates d) rows) p h.0) h.1

pub pairings_out : (d : ℕ) (rows p : List ℕ) → Memᴰ p (pairings d rows) → Pairing d rows p
unfolding pairings
pairings_out d rows p m =
    let h = onces_out p (selections (map (mates d) rows)) m in
    takes_pairing d rows p (selections_out (map (mates d) rows) p h.0) h.1

-- ---- the rank

most_bound : (ps : List (List ℕ)) (p : List ℕ) → Memᴰ p ps → size p ≤ most ps
unfolding most
most_bound [] p m = absurd (Memᴰ.not-nil m)
most_bound (q ∷ ps) p m = elim (Memᴰ.cases_cons m) [ inl e ↦ omega (arith, ap size e) | inr k ↦ omega (arith, most_bound ps p k) ]

most_met : (q : List ℕ) (ps : List (List ℕ)) → Memᴰ q ps → (p : List ℕ) × Memᴰ p ps × (most ps ≡ size p)
unfolding most
most_met q [] m = absurd (Memᴰ.not-nil m)
most_met q (x ∷ []) m = (x, Memᴰ.head refl, omega arith)
most_met q (x ∷ y ∷ ps) m = go (most_met y (y ∷ ps) (Memᴰ.head refl)) (dec_le (most (y ∷ ps)) (size x))
  where
    go : (p : List ℕ) × Memᴰ p (y ∷ ps) × (most (y ∷ ps) ≡ size p) → Dec (most (y ∷ ps) ≤ size x)
        → (p : List ℕ) × Memᴰ p (x ∷ y ∷ ps) × (max (size x) (most (y ∷ ps)) ≡ size p)
    go t (yes h) = (x, Memᴰ.head refl, omega arith)
    go (p, k, e) (no h) = (p, Memᴰ.tail k, omega arith)

module _ (d : ℕ) where
  -- the pairing in which no row has a mate
  pub nobody : (rows : List ℕ) → (p : List ℕ) × Pairing d rows p
  nobody [] = ([], pairing_nil d)
  nobody (r ∷ rows) = let q = nobody rows in (zero ∷ q.0, pairing_none d r rows q.0 q.1)

  -- no pairing is larger than the rank
  pub rank_bound : (rows p : List ℕ) → Pairing d rows p → size p ≤ rank d rows
  unfolding rank
  rank_bound rows p P = most_bound (pairings d rows) p (pairings_in d rows p P)

  -- and one has it for its size
  abbrev pub OfRank : List ℕ → Type 0
  OfRank rows = (p : List ℕ) × Pairing d rows p × (rank d rows ≡ size p)

  pub rank_met : (rows : List ℕ) → OfRank rows
  unfolding rank
  rank_met rows =
      let n = nobody rows in
      let h = most_met n.0 (pairings d rows) (pairings_in d rows n.0 n.1) in
      (h.0, pairings_out d rows h.0 h.1, h.2)
