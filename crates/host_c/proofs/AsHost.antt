-- What C links promises what `host` promises. The contract that the prover made of an export is the one that it made of the function of `host` by
-- the same name, of which `host/Determined` and `host/PlayedTells` are proved. Of the two for lesson files, whose functions stand in an inner file
-- of `host`, it is said here what `host/Determined` says there: they ask nothing, and leave no choice. Assumes nothing.
use Prim.Native.Nat.{ℕ}
use mathlib.Core.Path.{◌≡◌, refl, sym, ◌∙◌}
use mathlib.Core.List.{List}
use Rattle.walks.proofs.Public.{Public}
use Rattle.host.specs.declared.spoken.Plain.{Plain}
use Rattle.host.proofs.foliokettle_distinct.Reads as distinct
use Rattle.host.proofs.foliokettle_begin.Reads as begin
use Rattle.host.proofs.foliokettle_call.Reads as call
use Rattle.host.proofs.foliokettle_alter.Reads as alter
use Rattle.host_c.proofs.foliokettle_distinct.Reads as c-distinct
use Rattle.host_c.proofs.foliokettle_begin.Reads as c-begin
use Rattle.host_c.proofs.foliokettle_call.Reads as c-call
use Rattle.host_c.proofs.foliokettle_alter.Reads as c-alter
use Rattle.host_c.proofs.foliokettle_read.Kinds as c-read-kinds
use Rattle.host_c.proofs.foliokettle_read.Reads as c-read
use Rattle.host_c.proofs.foliokettle_write.Kinds as c-write-kinds
use Rattle.host_c.proofs.foliokettle_write.Reads as c-write

pub distinct_as_host : (c-distinct.Asked ≡ distinct.Asked) × (c-distinct.Post ≡ distinct.Post)
distinct_as_host = (refl, refl)

pub begin_as_host : (c-begin.Asked ≡ begin.Asked) × (c-begin.Post ≡ begin.Post)
begin_as_host = (refl, refl)

pub call_as_host : (c-call.Asked ≡ call.Asked) × (c-call.Post ≡ call.Post)
call_as_host = (refl, refl)

pub alter_as_host : (c-alter.Asked ≡ alter.Asked) × (c-alter.Post ≡ alter.Post)
alter_as_host = (refl, refl)

-- d and T or the refusal, and every place of the lent list
pub c_read_determined : Public 2 c-read-kinds.ps c-read-kinds.r c-read.Asked c-read.Post (Plain × List ℕ) (λ κs r e. (r, e.1.0.now))
c_read_determined =
    record { asks_nothing = λ κs a. tt; determined = λ κs a r r' e e' p q i. ((p.0 ∙ sym q.0) i, (p.1 ∙ sym q.1) i) }

-- the file's length or the refusal, and every byte of the lent buffer
pub c_write_determined : Public 2 c-write-kinds.ps c-write-kinds.r c-write.Asked c-write.Post (Plain × List ℕ) (λ κs r e. (r, e.1.1.0.now))
c_write_determined =
    record { asks_nothing = λ κs a. tt; determined = λ κs a r r' e e' p q i. ((p.0 ∙ sym q.0) i, (p.1 ∙ sym q.1) i) }
