-- A part of a list filled with zeros. Assumes nothing.
use Prim.Native.Nat.{ℕ, zero, ◌+◌, ◌≤◌}
use mathlib.Core.Path.{◌≡◌, refl, sym, ap, ◌∙◌}
use mathlib.Core.List.{List, ◌++◌, append-nil}
use native.Mathlib.Omega.{arith}
use borrow.Rule.Slice.PartMut.{mid_of, put_mid}
use lib.ListN.{length, take, drop, replicate, length-drop, length-replicate, drop_of_length-le}
use lib.Seq.{paste, length-take-le}
use Rattle.std.proofs.lemmas.List.Edits.{paste_all}
use Rattle.std.proofs.lemmas.Slice.{put_mid-paste}

module _ (a k : ℕ) (old zeros : List ℕ) (e : zeros ≡ replicate (length (mid_of a k old)) zero) where
  pub filled : a + k ≤ length old → put_mid a k old zeros ≡ paste old a (replicate k zero) k
  filled h =
      let long : length (mid_of a k old) ≡ k = length-take-le k (drop a old) (omega (arith, length-drop a old)) in
      put_mid-paste a k old zeros (replicate k zero) k (e ∙ ap (λ (n : ℕ). replicate n zero) long) refl (sym (length-replicate k zero))

  -- up to the end
  pub filled_rest : length old ≡ a + k → put_mid a k old zeros ≡ take a old ++ replicate k zero
  filled_rest h =
      filled (omega arith) ∙ paste_all old a (replicate k zero) k (sym (length-replicate k zero))
      ∙ ap (λ (l : List ℕ). take a old ++ (replicate k zero ++ l)) (drop_of_length-le old {i = a + k} (omega arith))
      ∙ ap (λ (l : List ℕ). take a old ++ l) (append-nil (replicate k zero))
