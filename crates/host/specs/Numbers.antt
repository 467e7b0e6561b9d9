-- The numbers by which hosts in other languages are answered about a view that belongs to no desk, and about lesson files.
use Rattle.std.specs.Prelude.{ℕ, zero, Result, Ok, Err}
use Rattle.refusals.specs.declared.Refusal.{Refusal}
use Rattle.refusals.specs.Refusals.{number, row}
use Rattle.host.specs.declared.spoken.Plain.{Plain}

-- 'its number and a row number'
abbrev pub plain_refused : Refusal → Plain
plain_refused r = record { refusal = number r; first = row r; second = zero }

-- one number: how many positions are kept, or of a table that is saved 'its length is answered'
abbrev pub plain_number : Result ℕ Refusal → Plain
plain_number (Ok n) = record { refusal = zero; first = n; second = zero }
plain_number (Err r) = plain_refused r

-- 'd and T are returned'
abbrev pub plain_read : Result (ℕ × ℕ) Refusal → Plain
plain_read (Ok (d, t)) = record { refusal = zero; first = d; second = t }
plain_read (Err r) = plain_refused r
