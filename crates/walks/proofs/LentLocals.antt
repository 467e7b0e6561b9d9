-- A value that lies in a local: from its cell and what it owns to what a borrow of it holds, and back again. Assumes `Logic`.
use Prim.Native.Nat.{ℕ}
use mathlib.Core.List.{List, [], ◌∷◌}
use seplogic.Ra.Ura.{Ura}
use base.Fraction.{full_share}
use mir.Val.{Val}
use base.Logic.{ent, sep}
use base.Fml.{fsep}
use types.Logic.{Logic, sem}
use types.Kit.{‵, ◌$◌, ◌∵◌, !, qed, fsplit, fjoin, fpick, fpack, done}
use denote.RattleType.{RattleType}
use denote.Laws.{Is, Tells, shows}
use denote.Memory.{mem, cell_at, part_of}
use denote.Struct.Steps.{spelt}

module _ {M : Type 1} {𝓤 : Ura M} (𝓛 : Logic 𝓤) (R : RattleType) (h : R.Denot) (b o : ℕ) where
  -- a value is laid down
  pub lies_in : (vs : List Val)
      → ent 𝓤 (sep 𝓤 (sem 𝓛 (cell_at full_share R.mir vs b o)) (sem 𝓛 (R.own_val h vs))) (sem 𝓛 ((mem R).own_at h b o))
  unfolding part_of
  lies_in vs =
      qed 𝓛 (‵ (cell_at full_share R.mir vs b o) ∷ ‵ (R.own_val h vs) ∷ []) ∵ fjoin ! $ fpack ! (List Val)
      (λ us. fsep (cell_at full_share R.mir us b o) (R.own_val h us)) vs $ done !

  -- and taken up, where its type tells its machine values
  pub lies_out : (vals : R.Denot → List Val) → Tells R (Is R) vals
      → ent 𝓤 (sem 𝓛 ((mem R).own_at h b o)) (sem 𝓛 (fsep (cell_at full_share R.mir (vals h) b o) (R.own_val h (vals h))))
  unfolding part_of
  lies_out vals tells =
      qed 𝓛 (‵ ((mem R).own_at h b o) ∷ []) ∵ fpick !
      (λ vs. fsplit ! $ spelt ! R (Is R) (shows 𝓛 R) vals tells full_share h vs b o $ fjoin ! $ done !)
