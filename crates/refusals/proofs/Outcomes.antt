-- What a list of cases comes to, whatever is answered: none of them applies and the answer stands, or the first that does gives its refusal.
-- So a judgement in one type of answer carries over to any other. Assumes nothing.
use mathlib.Core.Path.{◌≡◌, refl, sym, ap, ◌∙◌}
use mathlib.Core.Logic.{◌≢◌, ◌⊎◌, inl, inr}
use mathlib.Core.Bool.{Bool, true, false, cond}
use mathlib.Core.List.{List, [], ◌∷◌, ◌++◌}
use Rattle.std.specs.Prelude.{Result, Ok, Err}
use Rattle.refusals.specs.declared.Refusal.{Refusal}
use Rattle.refusals.specs.Cases.{Case, decided}

abbrev pub NoneApplies : List Case → Type 0
NoneApplies [] = Unit {0}
NoneApplies (c ∷ cs) = (c.applies ≡ false) × NoneApplies cs

-- the first case that applies has this refusal
abbrev pub Gives : List Case → Refusal → Type 0
Gives [] r = ⊥
Gives (c ∷ cs) r = ((c.applies ≡ true) × (c.refusal ≡ r)) ⊎ ((c.applies ≡ false) × Gives cs r)

pub outcome : (cs : List Case) → NoneApplies cs ⊎ ((r : Refusal) × Gives cs r)
outcome [] = inl tt
outcome (c ∷ cs) = go c.applies refl (outcome cs)
  where
    go : (b : Bool) → c.applies ≡ b → NoneApplies cs ⊎ ((r : Refusal) × Gives cs r) → NoneApplies (c ∷ cs) ⊎ ((r : Refusal) × Gives (c ∷ cs) r)
    go true e later = inr (c.refusal, inl (e, refl))
    go false e (inl none) = inl (e, none)
    go false e (inr (r, g)) = inr (r, inr (e, g))

-- of cases behind cases, the first
pub none_first : (cs ds : List Case) → NoneApplies (cs ++ ds) → NoneApplies cs
none_first [] ds none = tt
none_first (c ∷ cs) ds none = (none.0, none_first cs ds none.1)

module _ {A : Type 0} (refused : Refusal → A) where
  -- cases behind cases are one list
  pub chained : (cs ds : List Case) (a : A) → decided refused cs (decided refused ds a) ≡ decided refused (cs ++ ds) a
  unfolding decided
  chained [] ds a = refl
  chained (c ∷ cs) ds a = ap (λ (r : A). cond c.applies (refused c.refusal) r) (chained cs ds a)

  pub stands : (cs : List Case) → NoneApplies cs → (a : A) → decided refused cs a ≡ a
  unfolding decided
  stands [] none a = refl
  stands (c ∷ cs) none a = rw none.0 (stands cs none.1 a)

  pub refuses : (cs : List Case) (r : Refusal) → Gives cs r → (a : A) → decided refused cs a ≡ refused r
  unfolding decided
  refuses [] r g a = absurd g
  refuses (c ∷ cs) r (inl (e, same)) a = rw (e, same) refl
  refuses (c ∷ cs) r (inr (e, later)) a = rw e (refuses cs r later a)

  -- the same with more cases behind them
  pub stands_first : (cs ds : List Case) → NoneApplies cs → (a : A) → decided refused (cs ++ ds) a ≡ decided refused ds a
  stands_first cs ds none a = sym (chained cs ds a) ∙ stands cs none (decided refused ds a)

  pub refuses_first : (cs ds : List Case) (r : Refusal) → Gives cs r → (a : A) → decided refused (cs ++ ds) a ≡ refused r
  refuses_first cs ds r g a = sym (chained cs ds a) ∙ refuses cs r g (decided refused ds a)

  -- the other way, where what is answered is no refusal
  pub not_refused : (a b : A) → ((r : Refusal) → refused r ≢ b) → (cs : List Case) → decided refused cs a ≡ b → NoneApplies cs × (a ≡ b)
  not_refused a b apart cs e = elim (outcome cs) [
    | inl none ↦ (none, sym (stands cs none a) ∙ e)
    | inr (r, g) ↦ absurd (apart r (sym (refuses cs r g a) ∙ e))
  ]

  -- where no refusal is the answer that stands, nor another refusal
  module _ (a : A) (apart : (r : Refusal) → refused r ≢ a) where
    pub stood : (cs : List Case) → decided refused cs a ≡ a → NoneApplies cs
    stood cs e = (not_refused a a apart cs e).0

    pub refusing : ((r s : Refusal) → refused r ≡ refused s → r ≡ s) → (cs : List Case) (r : Refusal) → decided refused cs a ≡ refused r → Gives cs r
    refusing same cs r e = elim (outcome cs) [
      | inl none ↦ absurd (apart r (sym e ∙ stands cs none a))
      | inr (s, g) ↦ rw (same s r (sym (refuses cs s g a) ∙ e)) at g
    ]

-- ---- where the answer is a Result: no refusal is an answer, and different refusals or answers are different results

pub not_ok : {A : Type 0} (a : A) (r : Refusal) → ◌≡◌ {A = Result A Refusal} (Err r) (Ok a) → ⊥
not_ok a r e = cc

pub same_err : {A : Type 0} (r s : Refusal) → ◌≡◌ {A = Result A Refusal} (Err r) (Err s) → r ≡ s
same_err r s e = cc

pub same_ok : {A : Type 0} (a b : A) → ◌≡◌ {A = Result A Refusal} (Ok a) (Ok b) → a ≡ b
same_ok a b e = cc
