-- Calls and answers as plain numbers, for hosts in other languages.
use Rattle.std.specs.Prelude.{ℕ, zero, cond, List, eqb, Result, Option, Some, None}
use Rattle.sets.specs.Rows.{as_row}
use Rattle.theory.specs.Pairings.{at}
use Rattle.sheet.specs.declared.Sheet.{Sheet}
use Rattle.store.specs.declared.Target.TheVariants.{Table, Own}
use Rattle.store.specs.declared.Call.{Call}
use Rattle.store.specs.declared.Call.TheVariants.{Do, Ask}
use Rattle.store.specs.declared.Change.TheVariants.{Delete, Insert, Reset}
use Rattle.store.specs.declared.Question.TheVariants.{Look, Count, Distinct}
use Rattle.store.specs.declared.Answer.{Answer}
use Rattle.store.specs.declared.Reply.{Reply}
use Rattle.refusals.specs.declared.Refusal.{Refusal}
use Rattle.refusals.specs.Refusals.{number_of}
use Rattle.store.specs.Answers.{values_of}
use Rattle.store.specs.Calls.{replied, told}
use Rattle.host.specs.declared.spoken.Plain.{Plain}
use Rattle.host.specs.declared.spoken.Handed.{Handed}

-- the call of a kind and its argument: 0 deletes a table row, 1 an own row, 2 inserts, 3 resets, 4 looks, 5 counts, 6 asks DISTINCT
unfoldable pub asked_by : ℕ → ℕ → Option Call
asked_by kind n =
    cond (eqb kind 0) (Some (Do (Delete (Table n))))
    (cond (eqb kind 1) (Some (Do (Delete (Own n))))
    (cond (eqb kind 2) (Some (Do (Insert (as_row n))))
    (cond (eqb kind 3) (Some (Do Reset))
    (cond (eqb kind 4) (Some (Ask (Look n)))
    (cond (eqb kind 5) (Some (Ask Count))
    (cond (eqb kind 6) (Some (Ask Distinct)) None))))))

-- an answer by the request's numbers
abbrev pub plain_of : Result Answer Refusal → Plain
plain_of a = record { refusal = number_of a; first = at (values_of a) 0; second = at (values_of a) 1 }

abbrev pub handed : Reply → Handed
handed r = record { told = plain_of r.answer; sheet = r.sheet }

-- what is told where there is no call: the largest number of 64 bits, which is no refusal of the request
abbrev pub no_call : Plain
no_call = record { refusal = 18446744073709551615; first = zero; second = zero }

-- what the host is handed back
abbrev pub handed_by : Option Call → ℕ → List ℕ → Sheet → ℕ → ℕ → Handed
handed_by (Some c) d table s k places = handed (replied d table s k c places)
handed_by None d table s k places = record { told = no_call; sheet = s }

-- and its list
abbrev pub list_of : Option Call → ℕ → List ℕ → Sheet → ℕ → List ℕ → List ℕ
list_of (Some c) d table s k list = (told d table s k c list).list
list_of None d table s k list = list
