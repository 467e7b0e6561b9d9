-- A reader made of a file and a cursor: its type, and what it owns of what the file's slice owns. Assumes `Logic`.
use types.Logic.{Logic, sem}
use denote.Ref.{Bor}
use Rattle.walks.proofs.Walk.{refl, ℕ, ◌<◌, ◌^◌, List, [], ◌∷◌, length, Ura, named, w64, Val, ent, Lft, Fml, ‵, ◌$◌, ◌∵◌, ! }
use Rattle.walks.proofs.Walk.{qed, by}
use Rattle.walks.proofs.Walk.{move, fjoin, RattleType, Is, uint_Makes, u8, usize, NamedLft, named_lft, slice_val, ShrSlice, owned, nothing}
use Rattle.walks.proofs.Walk.{own_shut}
use Rattle.files.specs.declared.reader.Reader.{Reader}
use Rattle.files.specs.contracts.reader.Reader as readers
use Rattle.files.proofs.reader.Reader.TheLaws as reader-laws

-- machine values
abbrev pub file_value : Bor (List ℕ) → Val
file_value file = slice_val file.ref_ptr (length file.now)

abbrev pub reader_value : Reader → Val
reader_value = reader-laws.lowered

-- the reader's type, at the lifetime of the file
abbrev pub lifetime : Lft → NamedLft
lifetime κ-file = named_lft 1 0 tt (κ-file, tt)

abbrev pub ReaderType : Lft → RattleType
ReaderType κ-file = readers.the_row (lifetime κ-file)

abbrev pub made : Bor (List ℕ) → ℕ → Reader
made file cursor = record { file = file; at = cursor }

-- what the file's slice owns
abbrev pub FileOwn : Lft → Bor (List ℕ) → Fml
FileOwn κ-file file = (ShrSlice (named 0) κ-file u8).own_val file (file_value file ∷ [])

pub made_owns : (κ-file : Lft) (file : Bor (List ℕ)) (cursor : ℕ) {M : Type 1} {𝓤 : Ura M} (𝓛 : Logic 𝓤)
    → cursor < 2 ^ 64
    → ent 𝓤 (sem 𝓛 (FileOwn κ-file file)) (sem 𝓛 ((ReaderType κ-file).own_val (made file cursor) (reader_value (made file cursor) ∷ [])))
made_owns κ-file file cursor 𝓛 fits =
    qed 𝓛 (‵ (FileOwn κ-file file) ∷ []) ∵ nothing ! $
    owned ! usize (Is usize) (uint_Makes 𝓛 w64) cursor _ (refl, fits) $ fjoin ! $ move ! (1 ∷ 0 ∷ []) $ fjoin ! $
    by ! (own_shut 𝓛 (readers.the_type (lifetime κ-file)) (reader-laws.the_laws (lifetime κ-file)) (file, (cursor, tt)))
