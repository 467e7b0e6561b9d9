-- Pairings of the marked rows of a view, as pairings of the whole view in which the other rows are empty; marks put and read. Assumes nothing.
use Prim.Native.Nat.{ℕ, zero, suc, ◌≤◌, ◌<◌}
use mathlib.Core.Path.{◌≡◌, refl, sym, ap, ◌∙◌, subst}
use mathlib.Core.Logic.{◌⊎◌, inl, inr}
use mathlib.Core.Bool.{Bool, true, false, cond, false≢true}
use mathlib.Core.List.Memᴰ
use mathlib.Core.List.{List, [], ◌∷◌, Memᴰ}
use native.Mathlib.Nat.{not-suc-le-zero, le_of_suc-le-suc, suc-ne-zero}
use native.Mathlib.Decide.{ℕ_discrete, dec_lt}
use native.Mathlib.Omega.{arith}
use lib.ListN.{length, set}
use lib.Seq.{get_or-set_same, get_or-set_other, set_out}
use Rattle.sets.specs.Sets.{has}
use Rattle.sets.proofs.Bools.{not_both}
use Rattle.sets.proofs.Values.{has-empty}
use Rattle.theory.specs.Pairings.{size, rank, at, In, Seated, Pairing}
use Rattle.theory.specs.Kept.{marked, pick}
use Rattle.theory.specs.Code.Search.{mask}
use Rattle.theory.proofs.Places.{not_mate}
use Rattle.theory.proofs.PairingSteps.{pairing_tail, pairing_head, pairing_none, pairing_mate, pairing_move}
use Rattle.theory.proofs.Enumerations.{rank_bound, rank_met}

-- every mark of a is one of b
abbrev pub Fewer : List Bool → List Bool → Type 0
Fewer a b = (i : ℕ) → marked a i ≡ true → marked b i ≡ true

-- ---- one more mark

pub mark_same : (ms : List Bool) (x : ℕ) → x < length ms → marked (set ms x true) x ≡ true
mark_same ms x h = get_or-set_same ms x true false h

pub mark_keeps : (ms : List Bool) (x : ℕ) → Fewer ms (set ms x true)
mark_keeps ms x i e = go (ℕ_discrete i x) (dec_lt x (length ms))
  where
    go : Dec (i ≡ x) → Dec (x < length ms) → marked (set ms x true) i ≡ true
    go (yes s) (yes h) = ap (marked (set ms x true)) s ∙ mark_same ms x h
    go (yes s) (no n) = subst (λ (l : List Bool). marked l i ≡ true) (sym (set_out ms x true (omega arith))) e
    go (no n) h = get_or-set_other ms x i true false n ∙ e

pub mark_cases : (ms : List Bool) (x i : ℕ) → marked (set ms x true) i ≡ true → (i ≡ x) ⊎ (marked ms i ≡ true)
mark_cases ms x i e = elim (ℕ_discrete i x) [ yes s ↦ inl s | no n ↦ inr (sym (get_or-set_other ms x i true false n) ∙ e) ]

-- ---- the masked rows by place

pub length-mask : (ms : List Bool) (rows : List ℕ) → length (mask ms rows) ≡ length rows
unfolding mask
length-mask ms [] = refl
length-mask [] (r ∷ rows) = ap suc (length-mask [] rows)
length-mask (true ∷ ms) (r ∷ rows) = ap suc (length-mask ms rows)
length-mask (false ∷ ms) (r ∷ rows) = ap suc (length-mask ms rows)

at-mask : (ms : List Bool) (rows : List ℕ) (i : ℕ) → at (mask ms rows) i ≡ cond (marked ms i) (at rows i) zero
unfolding mask
at-mask ms [] i = none (marked ms i)
  where
    none : (b : Bool) → zero ≡ cond b zero zero
    none true = refl
    none false = refl
at-mask [] (r ∷ rows) zero = refl
at-mask [] (r ∷ rows) (suc i) = at-mask [] rows i
at-mask (true ∷ ms) (r ∷ rows) zero = refl
at-mask (false ∷ ms) (r ∷ rows) zero = refl
at-mask (true ∷ ms) (r ∷ rows) (suc i) = at-mask ms rows i
at-mask (false ∷ ms) (r ∷ rows) (suc i) = at-mask ms rows i

pub at-marked : (ms : List Bool) (rows : List ℕ) (i : ℕ) → marked ms i ≡ true → at (mask ms rows) i ≡ at rows i
at-marked ms rows i e = at-mask ms rows i ∙ ap (λ (b : Bool). cond b (at rows i) zero) e

pub at_unmarked : (ms : List Bool) (rows : List ℕ) (i : ℕ) → marked ms i ≡ false → at (mask ms rows) i ≡ zero
at_unmarked ms rows i e = at-mask ms rows i ∙ ap (λ (b : Bool). cond b (at rows i) zero) e

-- a place of the masked list that is not 0 is marked, and as it was
pub mask_out : (ms : List Bool) (l : List ℕ) (i v : ℕ) → at (mask ms l) i ≡ suc v → (marked ms i ≡ true) × (at l i ≡ suc v)
mask_out ms l i v e = go (marked ms i) refl
  where
    go : (b : Bool) → marked ms i ≡ b → (marked ms i ≡ true) × (at l i ≡ suc v)
    go true f = (f, sym (at-marked ms l i f) ∙ e)
    go false f = absurd (not_mate (at_unmarked ms l i f) e)

-- a masked row that holds a value is marked, and is the view's row
pub in_out : (d : ℕ) (ms : List Bool) (rows : List ℕ) (i v : ℕ) → In d (at (mask ms rows) i) v → (marked ms i ≡ true) × In d (at rows i) v
in_out d ms rows i v h = go (marked ms i) refl
  where
    go : (b : Bool) → marked ms i ≡ b → (marked ms i ≡ true) × In d (at rows i) v
    go true e = (e, subst (λ (r : ℕ). In d r v) (at-marked ms rows i e) h)
    go false e = absurd (not_both h.1 (ap (λ (r : ℕ). has r v) (at_unmarked ms rows i e) ∙ has-empty v))

pub in_mask : (d : ℕ) (ms : List Bool) (rows : List ℕ) (i v : ℕ) → marked ms i ≡ true → In d (at rows i) v → In d (at (mask ms rows) i) v
in_mask d ms rows i v e h = subst (λ (r : ℕ). In d r v) (sym (at-marked ms rows i e)) h

-- ---- pairings of masked rows

module _ (d : ℕ) (rows p : List ℕ) where
  pub pairing_marked : (ms : List Bool) → Pairing d (mask ms rows) p → (i v : ℕ) → at p i ≡ suc v → marked ms i ≡ true
  pairing_marked ms P i v e = (in_out d ms rows i v (P.holds i v e)).0

  pub pairing_whole : (ms : List Bool) → Pairing d (mask ms rows) p → Pairing d rows p
  pairing_whole ms P = pairing_move d (mask ms rows) rows p (length-mask ms rows) (λ i v h k. (in_out d ms rows i v k).1) P

  pub pairing_mask : (ms : List Bool) → ((i v : ℕ) → at p i ≡ suc v → marked ms i ≡ true) → Pairing d rows p → Pairing d (mask ms rows) p
  pairing_mask ms f P = pairing_move d rows (mask ms rows) p (sym (length-mask ms rows)) (λ i v h k. in_mask d ms rows i v (f i v h) k) P

  pub pairing_more : (a b : List Bool) → Fewer a b → Pairing d (mask a rows) p → Pairing d (mask b rows) p
  pairing_more a b sub P = pairing_mask b (λ i v e. sub i (pairing_marked a P i v e)) (pairing_whole a P)

-- ---- the marked rows alone

-- p and q have the same values and the same size
pub record Alike (p q : List ℕ) : Type 0 where
  pub sizes : size p ≡ size q
  pub there : (v : ℕ) → Seated p v → Seated q v
  pub back : (v : ℕ) → Seated q v → Seated p v

alike_refl : (p : List ℕ) → Alike p p
alike_refl p = record { sizes = refl; there = λ v s. s; back = λ v s. s }

alike_sym : (p q : List ℕ) → Alike p q → Alike q p
alike_sym p q a = record { sizes = sym a.sizes; there = a.back; back = a.there }

alike_zero : (p q : List ℕ) → Alike p q → Alike p (zero ∷ q)
unfolding size
alike_zero p q a = record {
  sizes = a.sizes;
  there = λ v s. let t = a.there v s in (suc t.0, t.1);
  back = λ v s. a.back v (later v s.0 s.1);
}
  where
    later : (v i : ℕ) → at (zero ∷ q) i ≡ suc v → Seated q v
    later v zero e = absurd (suc-ne-zero v (sym e))
    later v (suc i) e = (i, e)

alike_cons : (x : ℕ) (p q : List ℕ) → Alike p q → Alike (x ∷ p) (x ∷ q)
unfolding size
alike_cons x p q a = record { sizes = sizes x; there = λ v s. over p q a.there v s.0 s.1; back = λ v s. over q p a.back v s.0 s.1 }
  where
    sizes : (y : ℕ) → size (y ∷ p) ≡ size (y ∷ q)
    sizes zero = a.sizes
    sizes (suc y) = ap suc a.sizes

    over : (s t : List ℕ) → ((v : ℕ) → Seated s v → Seated t v) → (v i : ℕ) → at (x ∷ s) i ≡ suc v → Seated (x ∷ t) v
    over s t f v zero e = (zero, e)
    over s t f v (suc i) e = let u = f v (i, e) in (suc u.0, u.1)

-- the mate in front, before other rows with alike mates
pairing_front : (d r : ℕ) (rows rows' : List ℕ) (x : ℕ) (p q : List ℕ) → Pairing d (r ∷ rows) (x ∷ p) → Pairing d rows' q → Alike p q
    → Pairing d (r ∷ rows') (x ∷ q)
pairing_front d r rows rows' zero p q P Q a = pairing_none d r rows' q Q
pairing_front d r rows rows' (suc v) p q P Q a = let h = pairing_head d r rows p v P in pairing_mate d r rows' q v h.0 (λ s. h.1 (a.back v s)) Q

-- a pairing of the marked rows alone is one of the masked view
pub widen : (d : ℕ) (ms : List Bool) (rows q : List ℕ) → Pairing d (pick ms rows) q → (p : List ℕ) × Pairing d (mask ms rows) p × Alike q p
unfolding pick mask
widen d [] [] q Q = (q, Q, alike_refl q)
widen d (m ∷ ms) [] q Q = (q, Q, alike_refl q)
widen d [] (r ∷ rows) q Q = let t = widen d [] rows q Q in (zero ∷ t.0, pairing_none d zero (mask [] rows) t.0 t.1, alike_zero q t.0 t.2)
widen d (false ∷ ms) (r ∷ rows) q Q =
    let t = widen d ms rows q Q in (zero ∷ t.0, pairing_none d zero (mask ms rows) t.0 t.1, alike_zero q t.0 t.2)
widen d (true ∷ ms) (r ∷ rows) [] Q = absurd (suc-ne-zero (length (pick ms rows)) (sym Q.fits))
widen d (true ∷ ms) (r ∷ rows) (x ∷ q) Q =
    let t = widen d ms rows q (pairing_tail d r (pick ms rows) q x Q) in
    (x ∷ t.0, pairing_front d r (pick ms rows) (mask ms rows) x q t.0 Q t.1 t.2, alike_cons x q t.0 t.2)

-- a pairing whose first row is empty has no mate there
skip_empty : (d : ℕ) (rows p : List ℕ) → Pairing d (zero ∷ rows) p → (p' : List ℕ) × Pairing d rows p' × Alike p p'
unfolding size
skip_empty d rows [] P = absurd (suc-ne-zero (length rows) (sym P.fits))
skip_empty d rows (zero ∷ p) P = (p, pairing_tail d zero rows p zero P, alike_sym p (zero ∷ p) (alike_zero p p (alike_refl p)))
skip_empty d rows (suc v ∷ p) P = absurd (not_both (P.holds zero v refl).1 (has-empty v))

alike_trans : (p q r : List ℕ) → Alike p q → Alike q r → Alike p r
alike_trans p q r a b = record { sizes = a.sizes ∙ b.sizes; there = λ v s. b.there v (a.there v s); back = λ v s. a.back v (b.back v s) }

-- and the other way
pub shrink : (d : ℕ) (ms : List Bool) (rows p : List ℕ) → Pairing d (mask ms rows) p → (q : List ℕ) × Pairing d (pick ms rows) q × Alike p q
unfolding pick mask
shrink d [] [] p P = (p, P, alike_refl p)
shrink d (m ∷ ms) [] p P = (p, P, alike_refl p)
shrink d [] (r ∷ rows) p P =
    let e = skip_empty d (mask [] rows) p P in let t = shrink d [] rows e.0 e.1 in (t.0, t.1, alike_trans p e.0 t.0 e.2 t.2)
shrink d (false ∷ ms) (r ∷ rows) p P =
    let e = skip_empty d (mask ms rows) p P in let t = shrink d ms rows e.0 e.1 in (t.0, t.1, alike_trans p e.0 t.0 e.2 t.2)
shrink d (true ∷ ms) (r ∷ rows) [] P = absurd (suc-ne-zero (length (mask ms rows)) (sym P.fits))
shrink d (true ∷ ms) (r ∷ rows) (x ∷ p) P =
    let t = shrink d ms rows p (pairing_tail d r (mask ms rows) p x P) in
    (x ∷ t.0, pairing_front d r (mask ms rows) (pick ms rows) x p t.0 P t.1 t.2, alike_cons x p t.0 t.2)

pub rank-mask : (d : ℕ) (ms : List Bool) (rows : List ℕ) → rank d (pick ms rows) ≡ rank d (mask ms rows)
rank-mask d ms rows =
    let a = rank_met d (pick ms rows) in
    let b = rank_met d (mask ms rows) in
    let w = widen d ms rows a.0 a.1 in
    let s = shrink d ms rows b.0 b.1 in
    omega (arith, a.2, b.2, w.2.sizes, s.2.sizes, rank_bound d (mask ms rows) w.0 w.1, rank_bound d (pick ms rows) s.0 s.1)

-- ---- members of the marked rows

pub pick_in : (ms : List Bool) (rows : List ℕ) (i : ℕ) → i < length rows → marked ms i ≡ true → Memᴰ (at rows i) (pick ms rows)
unfolding pick
pick_in [] rows i h e = absurd (false≢true e)
pick_in (m ∷ ms) [] i h e = absurd (not-suc-le-zero h)
pick_in (true ∷ ms) (r ∷ rows) zero h e = Memᴰ.head refl
pick_in (false ∷ ms) (r ∷ rows) zero h e = absurd (false≢true e)
pick_in (true ∷ ms) (r ∷ rows) (suc i) h e = Memᴰ.tail (pick_in ms rows i (le_of_suc-le-suc h) e)
pick_in (false ∷ ms) (r ∷ rows) (suc i) h e = pick_in ms rows i (le_of_suc-le-suc h) e

-- where a marked row stands
abbrev Stands : List Bool → List ℕ → ℕ → Type 0
Stands ms rows x = (i : ℕ) × (i < length rows) × (marked ms i ≡ true) × (x ≡ at rows i)

pub pick_out : (ms : List Bool) (rows : List ℕ) (x : ℕ) → Memᴰ x (pick ms rows) → Stands ms rows x
unfolding pick
pick_out [] rows x m = absurd (Memᴰ.not-nil m)
pick_out (b ∷ ms) [] x m = absurd (Memᴰ.not-nil m)
pick_out (false ∷ ms) (r ∷ rows) x m = let t = pick_out ms rows x m in (suc t.0, omega (arith, t.1), t.2, t.3)
pick_out (true ∷ ms) (r ∷ rows) x m = go (λ k. pick_out ms rows x k) (Memᴰ.cases_cons m)
  where
    go : (Memᴰ x (pick ms rows) → Stands ms rows x) → (x ≡ r) ⊎ Memᴰ x (pick ms rows) → Stands (true ∷ ms) (r ∷ rows) x
    go rec (inl e) = (zero, omega arith, refl, e)
    go rec (inr k) = let t = rec k in (suc t.0, omega (arith, t.1), t.2, t.3)

pub pick_more : (a b : List Bool) (rows : List ℕ) (x : ℕ) → Fewer a b → Memᴰ x (pick a rows) → Memᴰ x (pick b rows)
pick_more a b rows x sub m =
    let t = pick_out a rows x m in
    subst (λ (y : ℕ). Memᴰ y (pick b rows)) (sym t.3) (pick_in b rows t.0 t.1 (sub t.0 t.2))

pub mem-at : (l : List ℕ) (i : ℕ) → i < length l → Memᴰ (at l i) l
mem-at [] i h = absurd (not-suc-le-zero h)
mem-at (x ∷ l) zero h = Memᴰ.head refl
mem-at (x ∷ l) (suc i) h = Memᴰ.tail (mem-at l i (le_of_suc-le-suc h))

pub pick-view : (ms : List Bool) (rows : List ℕ) (x : ℕ) → Memᴰ x (pick ms rows) → Memᴰ x rows
pick-view ms rows x m = let t = pick_out ms rows x m in subst (λ (y : ℕ). Memᴰ y rows) (sym t.3) (mem-at rows t.0 t.1)

-- ---- how many rows are marked

pub length_more : (a b : List Bool) (rows : List ℕ) → Fewer a b → length (pick a rows) ≤ length (pick b rows)
unfolding pick
length_more [] b rows sub = omega arith
length_more (x ∷ a) b [] sub = omega arith
length_more (true ∷ a) [] (r ∷ rows) sub = absurd (false≢true (sub zero refl))
length_more (true ∷ a) (false ∷ b) (r ∷ rows) sub = absurd (false≢true (sub zero refl))
length_more (true ∷ a) (true ∷ b) (r ∷ rows) sub =
    let h : length (pick a rows) ≤ length (pick b rows) = length_more a b rows (λ i e. sub (suc i) e) in omega arith
length_more (false ∷ a) [] (r ∷ rows) sub = length_more a [] rows (λ i e. sub (suc i) e)
length_more (false ∷ a) (true ∷ b) (r ∷ rows) sub =
    let h : length (pick a rows) ≤ length (pick b rows) = length_more a b rows (λ i e. sub (suc i) e) in omega arith
length_more (false ∷ a) (false ∷ b) (r ∷ rows) sub = length_more a b rows (λ i e. sub (suc i) e)

pub length_mark : (ms : List Bool) (rows : List ℕ) (x : ℕ) → length (pick (set ms x true) rows) ≤ suc (length (pick ms rows))
unfolding pick
length_mark [] rows x = omega arith
length_mark (b ∷ ms) [] zero = omega arith
length_mark (b ∷ ms) [] (suc x) = omega arith
length_mark (true ∷ ms) (r ∷ rows) zero = omega arith
length_mark (false ∷ ms) (r ∷ rows) zero = omega arith
length_mark (true ∷ ms) (r ∷ rows) (suc x) =
    let h : length (pick (set ms x true) rows) ≤ suc (length (pick ms rows)) = length_mark ms rows x in omega arith
length_mark (false ∷ ms) (r ∷ rows) (suc x) = length_mark ms rows x
