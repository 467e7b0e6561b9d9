-- The positions of marks, one mark at a time, and how they fill the front of a list. Assumes nothing.
use Prim.Native.Nat.{ℕ, zero, suc, ◌+◌, ◌≤◌, ◌<◌}
use mathlib.Core.Path.{◌≡◌, refl, sym, ap, ◌∙◌}
use mathlib.Core.Bool.{Bool, true, false, true≢false, false≢true}
use mathlib.Core.List.{List, [], ◌∷◌, ◌++◌, append_assoc}
use native.Mathlib.Nat.{add-zero, add-suc, suc-add, zero-add}
use native.Mathlib.Numerals.{add-one}
use native.Mathlib.Omega.{arith}
use lib.ListN.{length, get_or, set, take, drop, length-append, length-drop}
use lib.Seq.{drop-cons, set_at, take_all}
use Rattle.theory.specs.Kept.{marked, positions}

-- ---- one mark more; the first place is b

hit : (b : ℕ) (ms : List Bool) (i : ℕ) → marked ms i ≡ true → positions b (take (suc i) ms) ≡ positions b (take i ms) ++ (b + i) ∷ []
unfolding positions
hit b [] i t = absurd (false≢true t)
hit b (true ∷ ms) zero t = ap (λ (k : ℕ). k ∷ []) (sym (add-zero b))
hit b (false ∷ ms) zero t = absurd (false≢true t)
hit b (true ∷ ms) (suc i) t =
    ap (λ (l : List ℕ). b ∷ l) (hit (suc b) ms i t ∙ ap (λ (k : ℕ). positions (suc b) (take i ms) ++ k ∷ []) (suc-add b i ∙ sym (add-suc b i)))
hit b (false ∷ ms) (suc i) t = hit (suc b) ms i t ∙ ap (λ (k : ℕ). positions (suc b) (take i ms) ++ k ∷ []) (suc-add b i ∙ sym (add-suc b i))

miss : (b : ℕ) (ms : List Bool) (i : ℕ) → marked ms i ≡ false → positions b (take (suc i) ms) ≡ positions b (take i ms)
unfolding positions
miss b [] zero f = refl
miss b [] (suc i) f = refl
miss b (true ∷ ms) zero f = absurd (true≢false f)
miss b (false ∷ ms) zero f = refl
miss b (true ∷ ms) (suc i) f = ap (λ (l : List ℕ). b ∷ l) (miss (suc b) ms i f)
miss b (false ∷ ms) (suc i) f = miss (suc b) ms i f

-- ---- a list whose front is filled

-- the n positions of the marks before `next` stand at the front, and the rest is as it was
pub record Listed (ms : List Bool) (old list : List ℕ) (n next : ℕ) : Type 0 where
  pub inside : next ≤ length ms
  pub few : n ≤ next
  pub count : n ≡ length (positions zero (take next ms))
  pub is : list ≡ positions zero (take next ms) ++ drop n old

module _ {ms : List Bool} {old : List ℕ} where
  pub listed_start : Listed ms old old zero zero
  unfolding positions
  listed_start = record { inside = omega arith; few = omega arith; count = refl; is = refl }

  module _ {list : List ℕ} {n next : ℕ} (L : Listed ms old list n next) where
    -- the positions that are listed
    abbrev done : List ℕ
    done = positions zero (take next ms)

    pub listed_long : length ms ≤ length old → length list ≡ length old
    listed_long room = omega (arith, ap length L.is, length-append done (drop n old), length-drop n old, L.count, L.few, L.inside)

    pub listed_pass : next < length ms → marked ms next ≡ false → Listed ms old list n (next + 1)
    listed_pass h f = record {
      inside = omega arith;
      few = omega (arith, L.few);
      count = L.count ∙ ap length (sym same);
      is = L.is ∙ ap (λ (l : List ℕ). l ++ drop n old) (sym same);
    }
      where
        same : positions zero (take (next + 1) ms) ≡ done
        same = ap (λ (k : ℕ). positions zero (take k ms)) (add-one next) ∙ miss zero ms next f

    pub listed_more : next < length ms → length ms ≤ length old → marked ms next ≡ true → Listed ms old (set list n next) (n + 1) (next + 1)
    listed_more h room t = record {
      inside = omega arith;
      few = omega (arith, L.few);
      count = ap (λ (k : ℕ). k + 1) L.count ∙ sym (length-append done (next ∷ [])) ∙ ap length (sym more);
      is = stored ∙ ap (λ (l : List ℕ). l ++ drop (n + 1) old) (sym more);
    }
      where
        more : positions zero (take (next + 1) ms) ≡ done ++ next ∷ []
        more =
            ap (λ (k : ℕ). positions zero (take k ms)) (add-one next) ∙ hit zero ms next t ∙ ap (λ (k : ℕ). done ++ k ∷ []) (zero-add next)

        stored : set list n next ≡ (done ++ next ∷ []) ++ drop (n + 1) old
        stored =
            ap (λ (l : List ℕ). set l n next) (L.is ∙ ap (λ (l : List ℕ). done ++ l) (drop-cons old n zero (omega (arith, L.few))))
            ∙ set_at done (get_or old n zero) (drop (suc n) old) next n (sym L.count)
            ∙ sym (append_assoc done (next ∷ []) (drop (suc n) old))
            ∙ ap (λ (k : ℕ). (done ++ next ∷ []) ++ drop k old) (sym (add-one n))

    pub listed_end : length ms ≤ next → (n ≡ length (positions zero ms)) × (list ≡ positions zero ms ++ drop n old)
    listed_end h =
        let all = take_all next ms h in
        (L.count ∙ ap (λ (l : List Bool). length (positions zero l)) all, L.is ∙ ap (λ (l : List Bool). positions zero l ++ drop n old) all)
