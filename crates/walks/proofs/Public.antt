-- What it is to be a public call, said of the contract that the prover made of the source: it asks nothing of its callers, and any two outcomes
-- that it admits are the same to whoever called. A contract that asks or leaves open more than it did has no such theorem. Assumes nothing.
use Prim.Native.Nat.{ℕ}
use mathlib.Core.Path.{◌≡◌}
use mathlib.Core.List.{List}
use seplogic.Ra.Ura.{Ura}
use base.Logic.{SProp, emp}
use prog.Memory.{Memory}
use prog.Routine.{Routine}
use types.Logic.{Logic}
use contract.Lifetimes.{Lfts}
use contract.Monad.{Fun, fact}
use denote.Triple.Entry.{Args, Res}
use denote.Triple.Clauses.{Ended, AtExit, Clauses}
use borrow.Fn.Kinds.{ParamKind, ResultKind, In, Out, Dens, res_t, ended_of}

-- `seen` is what the caller has once the call is over: the result, and what it lent
pub record Public (n : ℕ) (ps : List (ParamKind n)) (r : ResultKind n) (asked : In n ps) (post : Out n ps r) (X : Type 0)
    (seen : (κs : Lfts n) → (res_t r κs).Denot → AtExit (ended_of n ps r) κs → X) : Type 0 where
  pub asks_nothing : (κs : Lfts n) (a : Dens κs ps) → asked κs a
  pub determined : (κs : Lfts n) (a : Dens κs ps) (z z' : (res_t r κs).Denot) (e e' : AtExit (ended_of n ps r) κs)
      → post κs a z e → post κs a z' e' → seen κs z e ≡ seen κs z' e'

-- The same of a contract as its clauses stand in the logic: it asks nothing, and ensures that `says` holds of the arguments, the result and what
-- was lent, whatever the logic stands on.
pub record Contract (T : Ended)
    (clauses : (M : Type 1) (𝓤 : Ura M) (𝓛 : Logic 𝓤) → (Memory → SProp 𝓤) → (Routine → Fun 𝓤) → Clauses 𝓤 T)
    (says : (κs : Lfts T.signature.lifetimes) → Args T.signature κs → Res T.signature κs → AtExit T κs → Type 0) : Type 3 where
  pub is : (M : Type 1) (𝓤 : Ura M) (𝓛 : Logic 𝓤) (mem : Memory → SProp 𝓤) (run : Routine → Fun 𝓤)
      (κs : Lfts T.signature.lifetimes) (a : Args T.signature κs)
      → clauses M 𝓤 𝓛 mem run κs a ≡ record { ghost = Unit {0}; requires = λ g. emp 𝓤; ensures = λ g r e. fact 𝓤 (says κs a r e) }
