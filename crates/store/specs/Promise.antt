-- Demand 3, as a promise about any store: it names no sheet, only turns, what is told, and what follows from them.
use Rattle.std.specs.Prelude.{ℕ, suc, ◌+◌, ◌-◌, ◌≤◌, ◌<◌, ◌≡◌, ◌≢◌, ◌↔◌, Bool, true, false, cond, ◌&&◌, ◌||◌}
use Rattle.std.specs.Prelude.{List, [], ◌∷◌, ◌++◌, eqb, leb, ltb, length, take, drop, Err}
use Rattle.sets.specs.Limits.{most_places, most_held, promised}
use Rattle.sets.specs.Sets.{within}
use Rattle.sets.specs.Rows.{bits}
use Rattle.sheet.specs.declared.Sheet.{Sheet}
use Rattle.sheet.specs.Upto.{sum_to}
use Rattle.store.specs.declared.Target.TheVariants.{Table, Own}
use Rattle.store.specs.declared.Call.{Call}
use Rattle.store.specs.declared.Call.TheVariants.{Do, Ask}
use Rattle.store.specs.declared.Change.TheVariants.{Delete, Insert, Reset}
use Rattle.refusals.specs.declared.Refusal.TheVariants.{NoDesk}
use Rattle.refusals.specs.Cases.{◌gives◌, decided}
use Rattle.refusals.specs.Refusals.{number_of}
use Rattle.store.specs.Answers.{accepted}
use Rattle.store.specs.Desks.{serve, Told, telling}
use Rattle.store.specs.Calls.{begun_sheet, sheet_after, told}

-- a call from a desk, with the list that it lends
pub record Turn : Type 0 where
  pub desk : ℕ
  pub call : Call
  pub list : List ℕ

-- What a store tells a turn after the turns before it. The last turn stands first.
abbrev pub Store : Type 0
Store = List Turn → Turn → Told

-- ---- a desk's history 'since its begin or last accepted reset', the last call first

-- 'hidden are the numbers in its accepted table deletes'
unfoldable pub hidden_in : List Call → List ℕ
hidden_in [] = []
hidden_in (Do (Delete (Table n)) ∷ h) = n ∷ hidden_in h
hidden_in (Do (Delete (Own n)) ∷ h) = hidden_in h
hidden_in (Do (Insert row) ∷ h) = hidden_in h
hidden_in (Do Reset ∷ h) = []
hidden_in (Ask q ∷ h) = hidden_in h

-- 'its own rows are its accepted inserts in order, less those that its accepted own deletes took out'
unfoldable pub own_in : List Call → List ℕ
own_in [] = []
own_in (Do (Delete (Table n)) ∷ h) = own_in h
own_in (Do (Delete (Own n)) ∷ h) = take n (own_in h) ++ drop (suc n) (own_in h)
own_in (Do (Insert row) ∷ h) = own_in h ++ (bits row ∷ [])
own_in (Do Reset ∷ h) = []
own_in (Ask q ∷ h) = own_in h

unfoldable pub member : List ℕ → ℕ → Bool
member [] n = false
member (m ∷ ms) n = eqb m n || member ms n

-- What desk k alone is told, from its history h: 'Look, count, distinct and refusals 6 to 9, 11 and 12 follow from this, the table and
-- the present call; 5 follows from the number of desks begun.'
unfoldable pub alone : ℕ → List ℕ → ℕ → List Call → Turn → Told
alone d table desks h t =
    telling d table (member (hidden_in h)) (own_in h) t.call t.list
    (decided Err ((leb desks t.desk gives NoDesk) ∷ []) (serve d table false (length t.list) (member (hidden_in h)) (own_in h) t.call))

-- ---- what a store's turns come to

module _ (tell : Store) where
  -- desk k's own accepted calls
  unfoldable pub history : ℕ → List Turn → List Call
  history k [] = []
  history k (t ∷ past) = cond (eqb t.desk k && accepted (tell past t).answer) (t.call ∷ history k past) (history k past)

  -- those turns themselves, without all others of the run
  unfoldable pub mine : ℕ → List Turn → List Turn
  mine k [] = []
  mine k (t ∷ past) = cond (eqb t.desk k && accepted (tell past t).answer) (t ∷ mine k past) (mine k past)

  abbrev pub held_by : ℕ → List Turn → ℕ
  held_by k past = length (own_in (history k past))

  abbrev pub used_by : ℕ → List Turn → ℕ
  used_by desks past = sum_to (λ k. held_by k past) desks

  abbrev pub owed_by : ℕ → List Turn → ℕ
  owed_by desks past = sum_to (λ k. promised - held_by k past) desks

-- 'An insert is proper when its desk exists and 8 doesn't apply.'
unfoldable pub proper_call : ℕ → Call → Bool
proper_call d (Do (Delete t)) = false
proper_call d (Do (Insert row)) = within d (bits row)
proper_call d (Do Reset) = false
proper_call d (Ask q) = false

unfoldable pub proper_insert : ℕ → ℕ → Turn → Bool
proper_insert d desks t = ltb t.desk desks && proper_call d t.call

-- ---- demand 3

pub record Demand3 (d : ℕ) (table : List ℕ) (desks : ℕ) (tell : Store) : Type 0 where
  -- a desk with fewer than eight rows of its own has its next proper insert accepted
  pub next : (past : List Turn) (t : Turn) → proper_insert d desks t ≡ true → held_by tell t.desk past < promised
      → accepted (tell past t).answer ≡ true
  -- no desk passes 64, and the class never passes 512
  pub desk_limit : (past : List Turn) (k : ℕ) → held_by tell k past ≤ most_held
  pub class_limit : (past : List Turn) → used_by tell desks past ≤ most_places
  -- refusal 10 is given exactly to a proper insert of a desk with 8 to 63 rows where every free place is owed
  pub no_room : (past : List Turn) (t : Turn) → (number_of (tell past t).answer ≡ 10)
      ↔ ((proper_insert d desks t ≡ true) × (promised ≤ held_by tell t.desk past) × (held_by tell t.desk past < most_held)
      × (used_by tell desks past + owed_by tell desks past ≡ most_places))
  -- apart from it, what a desk is told is what it would be told alone
  pub as_alone : (past : List Turn) (t : Turn) → number_of (tell past t).answer ≢ 10
      → tell past t ≡ alone d table desks (history tell t.desk past) t
  -- and refusal 10 writes nothing
  pub no_room_list : (past : List Turn) (t : Turn) → number_of (tell past t).answer ≡ 10 → (tell past t).list ≡ t.list

-- ---- our store

-- It begins a sheet, lends the table to every call, and passes on the sheet that each call hands back.
module _ (d : ℕ) (table : List ℕ) (desks : ℕ) where
  unfoldable pub sheet_on : List Turn → Sheet
  sheet_on [] = begun_sheet d table desks
  sheet_on (t ∷ past) = sheet_after d table (sheet_on past) t.desk t.call (length t.list)

  unfoldable pub class_store : Store
  class_store past t = told d table (sheet_on past) t.desk t.call t.list
