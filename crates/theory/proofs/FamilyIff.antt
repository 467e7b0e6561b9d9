-- Lemma 3.4 for lists with at least one row:
-- a set is in the family exactly when it meets every row and each of its values can be given a row of its own.
-- Assumes nothing.
use Prim.Native.Nat.{ℕ, zero, suc, ◌<◌}
use mathlib.Core.Path.{◌≡◌, refl, sym, ap, ◌∙◌, subst}
use mathlib.Core.Logic.{◌↔◌, ◌⊎◌, inl, inr}
use mathlib.Core.Bool.{Bool, true, false}
use mathlib.Core.List.Memᴰ
use mathlib.Core.List.{List, [], ◌∷◌, map, Memᴰ}
use native.Mathlib.Nat.{not-suc-le-zero, suc_inj, suc-ne-zero}
use lib.ListN.{length}
use borrow.Author.Tests.{eqb-true}
use Rattle.sets.specs.Sets.{has, single}
use Rattle.sets.proofs.Bools.{not_both}
use Rattle.sets.proofs.Values.{has-empty, has-single, has_same, union_in, union_out, set_antisym}
use Rattle.theory.specs.Family.{values, choices, value_set, family}
use Rattle.theory.specs.Pairings.{at, In, Seated, Pairing, Meets, Admits}
use Rattle.theory.proofs.Places.{seated?}
use Rattle.theory.proofs.PairingSteps.{pairing_nil, pairing_tail, pairing_head, pairing_none, pairing_mate}
use Rattle.theory.proofs.Enumerations.{values_in_lem, values_out, Takes, selections_in, selections_out}

-- ---- value sets

pub value_in : (c : List ℕ) (v : ℕ) → Memᴰ v c → has (value_set c) v ≡ true
unfolding value_set
value_in c v m = union_in v (Memᴰ.map single m) (has_same v)

pub value_out : (c : List ℕ) (v : ℕ) → has (value_set c) v ≡ true → Memᴰ v c
unfolding value_set
value_out c v h =
    let t = union_out (map single c) v h in
    let u = Memᴰ.of_map single c t.1 in
    let same : u.0 ≡ v = eqb-true u.0 v (sym (has-single u.0 v) ∙ ap (λ (r : ℕ). has r v) u.2 ∙ t.2) in
    subst (λ (x : ℕ). Memᴰ x c) same u.1

-- ---- choices

-- c is a choice of the rows
abbrev pub Choice : ℕ → List ℕ → List ℕ → Type 0
Choice d rows c = Takes c (map (values d) rows)

pub choice_family : (d : ℕ) (rows c : List ℕ) → zero < length rows → Choice d rows c → Memᴰ (value_set c) (family d rows)
unfolding family choices
choice_family d [] c h k = absurd (not-suc-le-zero h)
choice_family d (r ∷ rows) c h k = Memᴰ.map value_set (selections_in (map (values d) (r ∷ rows)) c k)

pub family-choice : (d : ℕ) (rows : List ℕ) (s : ℕ) → Memᴰ s (family d rows) → (c : List ℕ) × Choice d rows c × (value_set c ≡ s)
unfolding family choices
family-choice d [] s m = absurd (Memᴰ.not-nil m)
family-choice d (r ∷ rows) s m =
    let t = Memᴰ.of_map value_set (choices d (r ∷ rows)) m in
    (t.0, selections_out (map (values d) (r ∷ rows)) t.0 t.1, t.2)

-- ---- a choice shows that its value set is admitted

choice_meets : (d : ℕ) (rows c : List ℕ) → Choice d rows c → (r : ℕ) → Memᴰ r rows → (v : ℕ) × Memᴰ v c × In d r v
choice_meets d [] c h r m = absurd (Memᴰ.not-nil m)
choice_meets d (q ∷ rows) [] h r m = absurd h
choice_meets d (q ∷ rows) (x ∷ c) h r m = go (λ k. choice_meets d rows c h.1 r k) (Memᴰ.cases_cons m)
  where
    go : (Memᴰ r rows → (v : ℕ) × Memᴰ v c × In d r v) → (r ≡ q) ⊎ Memᴰ r rows → (v : ℕ) × Memᴰ v (x ∷ c) × In d r v
    go rec (inl e) = (x, Memᴰ.head refl, subst (λ (k : ℕ). In d k x) (sym e) (values_out d q x h.0))
    go rec (inr k) = let t = rec k in (t.0, Memᴰ.tail t.1, t.2)

-- a pairing in which every value taken has a row
abbrev Seating : ℕ → List ℕ → List ℕ → Type 0
Seating d rows c = (p : List ℕ) × Pairing d rows p × ((v : ℕ) → Memᴰ v c → Seated p v)

-- of the rows that took a value, the last gets it for its mate
choice_seating : (d : ℕ) (rows c : List ℕ) → Choice d rows c → Seating d rows c
choice_seating d [] [] h = ([], pairing_nil d, λ v m. absurd (Memᴰ.not-nil m))
choice_seating d [] (x ∷ c) h = absurd h
choice_seating d (r ∷ rows) [] h = absurd h
choice_seating d (r ∷ rows) (x ∷ c) h = let t = choice_seating d rows c h.1 in go t.0 t.1 t.2 (seated? t.0 x)
  where
    later : (p : List ℕ) (y v : ℕ) → Seated p v → Seated (y ∷ p) v
    later p y v s = (suc s.0, s.1)

    go : (p : List ℕ) → Pairing d rows p → ((v : ℕ) → Memᴰ v c → Seated p v) → Seated p x ⊎ (Seated p x → ⊥) → Seating d (r ∷ rows) (x ∷ c)
    go p P all (inl s) = (
      zero ∷ p,
      pairing_none d r rows p P,
      λ v m. elim (Memᴰ.cases_cons m) [ inl e ↦ later p zero v (subst (Seated p) (sym e) s) | inr k ↦ later p zero v (all v k) ],
    )
    go p P all (inr none) = (
      suc x ∷ p,
      pairing_mate d r rows p x (values_out d r x h.0) none P,
      λ v m. elim (Memᴰ.cases_cons m) [ inl e ↦ (zero, ap suc (sym e)) | inr k ↦ later p (suc x) v (all v k) ],
    )

pub family-admits : (d : ℕ) (rows : List ℕ) (s : ℕ) → Memᴰ s (family d rows) → Admits d rows s
family-admits d rows s m = go (family-choice d rows s m)
  where
    go : (c : List ℕ) × Choice d rows c × (value_set c ≡ s) → Admits d rows s
    go (c, C, e) =
        let q = choice_seating d rows c C in
        record {
          meets = λ r k. let t = choice_meets d rows c C r k in (t.0, ap (λ (x : ℕ). has x t.0) (sym e) ∙ value_in c t.0 t.1, t.2);
          mates = q.0;
          pairing = q.1;
          seated = λ v h. q.2 v (value_out c v (ap (λ (x : ℕ). has x v) e ∙ h));
        }

-- ---- a set that is admitted is the value set of a choice

-- a choice of the rows, all of s, that takes every value of s that p seats
record Chosen (d : ℕ) (rows p : List ℕ) (s : ℕ) : Type 0 where
  taken : List ℕ
  choice : Choice d rows taken
  inside : (v : ℕ) → Memᴰ v taken → has s v ≡ true
  all : (v : ℕ) → has s v ≡ true → Seated p v → Memᴰ v taken

-- value v, of s and of row r, is taken from r; x is r's mate, which is v if it is of s
chosen_cons : (d r v x : ℕ) (rows p : List ℕ) (s : ℕ) → has s v ≡ true → In d r v → ((w : ℕ) → has s w ≡ true → x ≡ suc w → w ≡ v)
    → Chosen d rows p s → Chosen d (r ∷ rows) (x ∷ p) s
chosen_cons d r v x rows p s e inn front m =
    record { taken = v ∷ m.taken; choice = (values_in_lem d r v inn, m.choice); inside = ins; all = λ w f q. place w f q.0 q.1 }
  where
    ins : (w : ℕ) → Memᴰ w (v ∷ m.taken) → has s w ≡ true
    ins w k = elim (Memᴰ.cases_cons k) [ inl f ↦ ap (has s) f ∙ e | inr l ↦ m.inside w l ]

    place : (w : ℕ) → has s w ≡ true → (i : ℕ) → at (x ∷ p) i ≡ suc w → Memᴰ w (v ∷ m.taken)
    place w f zero g = Memᴰ.head (front w f g)
    place w f (suc i) g = Memᴰ.tail (m.all w f (i, g))

choose : (d : ℕ) (rows p : List ℕ) (s : ℕ) → Pairing d rows p → ((r : ℕ) → Memᴰ r rows → Meets d s r) → Chosen d rows p s
choose d [] p s P meets =
    record {
      taken = [];
      choice = tt;
      inside = λ v m. absurd (Memᴰ.not-nil m);
      all = λ v e q. absurd (not_both (P.holds q.0 v q.1).1 (has-empty v));
    }
choose d (r ∷ rows) [] s P meets = absurd (suc-ne-zero (length rows) (sym P.fits))
choose d (r ∷ rows) (zero ∷ p) s P meets =
    let t = meets r (Memᴰ.head refl) in
    chosen_cons d r t.0 zero rows p s t.1 t.2 (λ w f g. absurd (suc-ne-zero w (sym g)))
    (choose d rows p s (pairing_tail d r rows p zero P) (λ q k. meets q (Memᴰ.tail k)))
choose d (r ∷ rows) (suc u ∷ p) s P meets =
    go (has s u) refl (choose d rows p s (pairing_tail d r rows p (suc u) P) (λ q k. meets q (Memᴰ.tail k)))
  where
    go : (b : Bool) → has s u ≡ b → Chosen d rows p s → Chosen d (r ∷ rows) (suc u ∷ p) s
    go true e m = chosen_cons d r u (suc u) rows p s e (pairing_head d r rows p u P).0 (λ w f g. sym (suc_inj g)) m
    go false e m =
        let t = meets r (Memᴰ.head refl) in
        chosen_cons d r t.0 (suc u) rows p s t.1 t.2 (λ w f g. absurd (not_both f (ap (has s) (sym (suc_inj g)) ∙ e))) m

pub admits_family : (d : ℕ) (rows : List ℕ) (s : ℕ) → zero < length rows → Admits d rows s → Memᴰ s (family d rows)
admits_family d rows s h A =
    let m = choose d rows A.mates s A.pairing A.meets in
    let same : value_set m.taken ≡ s =
    set_antisym (value_set m.taken) s (λ v e. m.inside v (value_out m.taken v e))
    (λ v e. value_in m.taken v (m.all v e (A.seated v e))) in
    subst (λ (x : ℕ). Memᴰ x (family d rows)) same (choice_family d rows m.taken h m.choice)

-- ---- the lemma

pub family-iff : (d : ℕ) (rows : List ℕ) (s : ℕ) → zero < length rows → Memᴰ s (family d rows) ↔ Admits d rows s
family-iff d rows s h = (family-admits d rows s, admits_family d rows s h)
