-- What proofs by hand would cite of the logic, so that each of them has one line for it.
pub use mathlib.Core.Path.{◌≡◌, refl, ap}
pub use Prim.Native.Nat.{ℕ, ◌<◌, ◌^◌}
pub use mathlib.Core.List.{[], ◌∷◌, List}
pub use lib.ListN.{length}
pub use seplogic.Ra.Ura.{Ura}
pub use seplogic.Ra.TreeShare.PosShare.{left as PosShare·left}
pub use seplogic.Ra.TreeShare.PosShare.{right as PosShare·right}
pub use seplogic.Ra.TreeShare.{full_share}
pub use mir.Syntax.{named, w64, erased}
pub use mir.Val.{Val, vint, vptr}
pub use base.Logic.{SProp, ent, sep, emp, via, fst∗, id⊢, snd∗, ex_e}
pub use base.Fml.{GName, Lft, Share, Fml, ftrue, flft, fat, fobs, fbor, fsep, flent, fdead}
pub use prog.Memory.{Memory}
pub use prog.Routine.{Routine}
pub use prog.Wp.{Heap, Calls, Loops, WpFn, Tables}
pub use ghost.Atoms.{Atoms}
pub use Rattle.std.specs.Borrow.{sem}
pub use contract.Monad.{Fun, fact}
unfoldable pub use contract.Running.{tables, tables_of}
pub use types.Kit.{Item, ‵, raw, ◌⊛◌, ⋆, some, later, ◌$◌, ◌∵◌, !, qed, by, move, keep, drop, use1, use2, use3, split, join, pick, rewrite}
pub use types.Kit.{fsplit, fsplit3, fjoin, fjoin3, feq_l, feq_i, suffices, frame, await, done, given, learn, fpick, fpack}
pub use types.Run.{look, look_raw, init, store_raw, forget, stop, hop, fld, from, load, addr, of_opd, and_then, no_more, assigns, land, returns}
pub use types.Run.{enter, alloc1, alloc0, params1, pass1, pass0, free1, free0, lit}
pub use types.Part.{agg, whole, sub, look_in, store_in}
pub use types.SemTy.{Body}
pub use sound.WpLaws.{FmC, fm_of, WpFn-mono}
pub use denote.RattleType.{owns, RattleType}
pub use denote.Laws.{Is, shows}
unfoldable pub use denote.Memory.{mem, cell_at, part_of}
pub use denote.Plain.{uint_vals, uint_Tells, uint_Makes}
pub use denote.Builtin.{usize, u64, u8}
pub use denote.Ref.{Bor, MutBor, MutRef, shr_vals, mut_vals, mut_Tells, NamedLft}
pub use denote.Slice.{slice_val, ShrSlice, MutSlice, finally, shr_slice_vals, mut_slice_vals, shr_slice_Tells, mut_slice_Tells, shr_slice_Lawful, mut_slice_Lawful}
pub use denote.Slice.{shr_slice_copy}
pub use denote.Signature.{plain, named_lft, Slot}
pub use denote.Steps.{only, opens, closes, owned, peeks, heard, nothing}
pub use denote.Struct.Steps.{spelt}
pub use denote.Triple.Statement.{Contract, Triple}
pub use denote.Triple.Call.{calls_at}
pub use denote.Triple.Clauses.{ensured, lasts}
pub use denote.Triple.Entry.{Vals, on_entry}
pub use denote.Triple.Spec.{Meets, triple_of}
pub use denote.Triple.Table.{entered, cited}
pub use denote.Triple.Walked.{says, Stays, stay_ref, stay_none, stay_none_slice, gave_slice, walk_of, AllGo, Goes-none, Goes-none_slice}
pub use denote.Triple.Walked.{Goes-gave_slice, Goes-ref, Walks, ends_at, walked, walk_Meets}
pub use denote.Exit.{yes}
pub use types.Tokens.{lft_new, lft_end}
pub use denote.Lend.{lends_ref, ref_back}
pub use lib.Dec.{lit<}
pub use denote.Struct.Rest.{own_shut, all_own, field_own, rest, own_open, own_out, own_put}
pub use contract.Lifetimes.{AllOutlive}
pub use denote.Struct.Declared.{Declared}
pub use denote.Struct.Values.{Values}
pub use contract.BorrowLft.{meet_⊑_right}
pub use borrow.Within.Token.{Rest, within_token, within_end}
