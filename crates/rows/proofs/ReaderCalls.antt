-- Two shapes of code around the reader, each walked by hand, as the check does today by itself: a function that takes a reader apart and calls one of its three, and a function of the three that makes a reader and asks it.
-- The row and its body go the same ways; what differs are the names of what is called, the type of the result, and what is asked and found.
use mathlib.Core.Path.{refl}
use mathlib.Core.List.{List, [], ◌∷◌}
use Prim.Native.Nat.{ℕ, ◌<◌, ◌^◌}
use lib.Dec.{T as Holds}
use seplogic.Ra.Ura.{Ura}
use mir.Syntax.{Callee as Called, Ty, Fn, local, value_local, place, field, copy, rv_opd, assign, call, seq, return, named, erased, imm, w8, w64, ty_int, ty_ref}
use mir.Val.{Val, WT, has_ty, vint}
use base.Logic.{SProp, ent, emp, id⊢}
use base.Fml.{Lft, Share}
use prog.Memory.{Memory}
use prog.Routine.{Routine}
use prog.Wp.{Calls, Loops, WpFn}
use types.Logic.{Logic}
use contract.Monad.{Fun, fact}
use types.Kit.{‵, raw, ⋆, ◌$◌, ◌∵◌, !, qed, by, move, use2, join, frame, done}
use types.Part.{whole, sub, look_in}
use types.Run.{look, init, forget, stop, fld, from, load, of_opd, and_then, no_more, assigns, land, returns, enter, alloc1, alloc0, params1, pass1, pass0, free1, free0}
use sound.WpLaws.{FmC}
use denote.Builtin.{u8}
use denote.Laws.{Is}
use denote.Plain.{uint_row_laws}
use denote.Ref.{Bor, NamedLft}
use denote.Signature.{Slot}
use denote.Slice.{slice_ty, ShrSlice, shr_slice_Lawful}
use denote.Struct.Laws as LL
use denote.Triple.Call.{calls_at}
use denote.Triple.Clauses.{Clauses, AtExit, at_exit, closing}
use denote.Triple.Spec.{triple_of}
use denote.Triple.Statement.{Contract, Triple}
use Rattle.wire.proofs.HandWalks.{lives, twice, answered}
use Rattle.rows.specs.declared.reader.Reader.{Reader}
use Rattle.rows.proofs.Readers.{ReaderType, image_val, three, three_vals, ThreeOwn, to_three, of_three, Three, Ends, ends, reader_val, TakenOwn, Taking, apart, TakenEnds, taken_ends, Made}
use Rattle.rows.specs.contracts.reader.Reader as T
use Rattle.rows.proofs.reader.Reader.TheLaws as T'
use Rattle.rows.specs.contracts.reader.at as at
use Rattle.rows.proofs.reader.at.Symbol.{name as #at}

-- ---- a reader is taken apart

-- its code: the three go to locals of their own, and from there to what is called
abbrev pub takes : Called → Ty → Fn
takes callee ty = record {
  lifetimes = 1;
  outlives = [];
  ty_params = [];
  givens = 0;
  params = 1;
  locals = local ty value_local ∷ local (T'.mir (named 0)) value_local ∷ local (slice_ty (ty_ref erased imm (ty_int w8))) value_local ∷ local (ty_int w64) value_local ∷ local (ty_int w64) value_local ∷ [];
  body =
      seq (assign (place 2 []) (rv_opd (copy (place 1 (field 0 ∷ [])))))
      (seq (assign (place 3 []) (rv_opd (copy (place 1 (field 1 ∷ [])))))
      (seq (assign (place 4 []) (rv_opd (copy (place 1 (field 2 ∷ []))))) (seq (call callee (copy (place 2 []) ∷ copy (place 3 []) ∷ copy (place 4 []) ∷ []) (place 0 [])) return)));
}

module _ {M : Type 1} {𝓤 : Ura M} (𝓛 : Logic 𝓤) (out : Slot 1) (cf : Clauses 𝓤 (Three out)) where
  -- what is called, and what is passed to it
  open 𝓛 use {H}

  abbrev pub Callee : Contract 𝓤
  Callee = triple_of 𝓛 (Three out).signature (closing 𝓛 (Three out) cf)

  abbrev pub passed : (κ : Lft) → Share → (d : Reader) → (cf (κ, tt) (three d.image d.begin d.index)).ghost → Callee.Ghost
  passed κ q d g = (((κ, tt), (q, tt), tt, three d.image d.begin d.index, three_vals d.image d.begin d.index), g)

  module _ (c : Clauses 𝓤 (Taking out)) (ty : Ty) (callee : Called) (κ : Lft) (q : Share) (d : Reader) (g : (cf (κ, tt) (three d.image d.begin d.index)).ghost) (k : (c (κ, tt) (d, tt)).ghost)
      (Found : (out.row (κ, tt)).Denot → Type 0)
      (typed : (r : (out.row (κ, tt)).Denot) (u : Val) → Is (out.row (κ, tt)) r (u ∷ []) → Holds (has_ty ty u) × WT u)
      (goes : ent 𝓤 (⋆ 𝓛 (lives κ q ∷ ‵ (ThreeOwn κ d.image d.begin d.index) ∷ [])) (Callee.pre (passed κ q d g)))
      (says : (r : (out.row (κ, tt)).Denot) (e : AtExit (Three out) (κ, tt)) → ent 𝓤 ((cf (κ, tt) (three d.image d.begin d.index)).ensures g r e) (fact 𝓤 (Found r)))
      (ends : (r : (out.row (κ, tt)).Denot) → Found r → ent 𝓤 (emp 𝓤) ((c (κ, tt) (d, tt)).ensures k r (at_exit (Taking out) (κ, tt) (d, tt) (tt, tt)))) where
    pub taken_walk : (C : Calls 𝓤 H) (Λ : Loops 𝓤 H) → FmC 𝓤 H 𝓛.laws C → Triple 𝓤 (C callee) Callee → Holds (has_ty (T'.mir (named 0)) (reader_val d)) × WT (reader_val d)
        → ent 𝓤 (⋆ 𝓛 (lives κ q ∷ ‵ (TakenOwn κ d) ∷ [])) (WpFn 𝓤 H C Λ (takes callee ty) (reader_val d ∷ []) (TakenEnds 𝓛 out c κ q d k))
    taken_walk C Λ fm known wt =
        qed 𝓛 (lives κ q ∷ ‵ (TakenOwn κ d) ∷ []) ∵ enter ! C Λ (takes callee ty) (reader_val d ∷ []) _ $
        alloc1 ! (λ l₀. alloc1 ! (λ l₁. alloc1 ! (λ l₂. alloc1 ! (λ l₃. alloc1 ! (λ l₄. alloc0 ! $ params1 ! $ pass1 ! (init ! 6 refl wt) $ pass0 ! $
        assigns ! (of_opd ! (load ! (from ! (fld ! refl (stop !))) (look_in ! 6 (sub ! 0 refl (whole !))))) (from ! (stop !)) (init ! 4 refl (tt, wt.1.0)) $
        assigns ! (of_opd ! (load ! (from ! (fld ! refl (stop !))) (look_in ! 6 (sub ! 1 refl (whole !))))) (from ! (stop !)) (init ! 2 refl (tt, wt.1.1.0)) $
        assigns ! (of_opd ! (load ! (from ! (fld ! refl (stop !))) (look_in ! 6 (sub ! 2 refl (whole !))))) (from ! (stop !)) (init ! 0 refl (tt, wt.1.1.1.0)) $
        move ! (11 ∷ []) $ apart ! κ d wt.1.1.0.fits wt.1.1.1.0.fits $ move ! (12 ∷ 0 ∷ []) $ use2 𝓛 (raw (Callee.pre (passed κ q d g))) goes $
        -- [what the callee asks; what the reader owns; _4; …; _3; …; _2; …; _1; …; room for _0; …]
        calls_at ! fm Callee known (passed κ q d g) (and_then ! (load ! (from ! (stop !)) (look ! 6 refl)) (and_then ! (load ! (from ! (stop !)) (look ! 4 refl)) (and_then ! (load ! (from ! (stop !)) (look ! 2 refl)) (no_more !)))) (λ u.
        answered ! tt (Three out) cf (κ, tt) (three d.image d.begin d.index) g (lives κ q) u Found says (λ r e is.
        -- [what the result owns; the token; what the reader owns; _4; …; _3; …; _2; …; _1; …; room for _0; …]
        land ! (from ! (stop !)) (init ! 11 refl (typed r u is)) $
        returns ! (look ! 11 refl) $ forget ! 3 refl $ forget ! 5 refl $ forget ! 7 refl $ forget ! 9 refl $ forget ! 11 refl $
        move ! (11 ∷ 12 ∷ []) $ free1 ! $ move ! (9 ∷ 10 ∷ []) $ free1 ! $ move ! (7 ∷ 8 ∷ []) $ free1 ! $ move ! (5 ∷ 6 ∷ []) $ free1 ! $ move ! (3 ∷ 4 ∷ []) $ free1 ! $ free0 ! $
        by ! (taken_ends 𝓛 out c κ q d k r u (ends r e)))))))))

-- ---- a reader is made and asked

-- its code: the reader is held in a local, and handed on from there
abbrev pub asks : Called → Ty → Fn
asks method ty = record {
  lifetimes = 1;
  outlives = [];
  ty_params = [];
  givens = 0;
  params = 3;
  locals = local ty value_local ∷ local (slice_ty (ty_ref (named 0) imm (ty_int w8))) value_local ∷ local (ty_int w64) value_local ∷ local (ty_int w64) value_local ∷ local (T'.mir erased) value_local ∷ [];
  body = seq (call #at (copy (place 1 []) ∷ copy (place 2 []) ∷ copy (place 3 []) ∷ []) (place 4 [])) (seq (call method (copy (place 4 []) ∷ []) (place 0 [])) return);
}

module _ {M : Type 1} {𝓤 : Ura M} (𝓛 : Logic 𝓤) (mem : Memory → SProp 𝓤) (run : Routine → Fun 𝓤) where
  -- what makes a reader
  open 𝓛 use {H}

  abbrev pub At : Contract 𝓤
  At = triple_of 𝓛 at.signature (at.spec 𝓛 mem run)

  abbrev to_at : Lft → Share → Bor (List ℕ) → ℕ → ℕ → At.Ghost
  to_at κ q s b i = (((κ, tt), (q, tt), tt, three s b i, three_vals s b i), tt)

  goes_at : (κ : Lft) (q : Share) (s : Bor (List ℕ)) (b i : ℕ) → ent 𝓤 (⋆ 𝓛 (lives κ q ∷ ‵ (ThreeOwn κ s b i) ∷ [])) (At.pre (to_at κ q s b i))
  goes_at κ q s b i = qed 𝓛 (lives κ q ∷ ‵ (ThreeOwn κ s b i) ∷ []) ∵ join ! $ frame ! $ done !

  module _ (out : Slot 1) (cm : Clauses 𝓤 (Taking out)) where
    -- what it is asked by, and what is passed to that
    abbrev pub Method : Contract 𝓤
    Method = triple_of 𝓛 (Taking out).signature (closing 𝓛 (Taking out) cm)

    abbrev pub handed : (κ : Lft) → Share → (r : Reader) → (cm (κ, tt) (r, tt)).ghost → Val → Method.Ghost
    handed κ q r g u = (((κ, tt), (q, tt), tt, (r, tt), (u ∷ [], tt)), g)

    module _ (c : Clauses 𝓤 (Three out)) (ty : Ty) (method : Called) (κ : Lft) (q : Share) (s : Bor (List ℕ)) (b i : ℕ) (bf : b < 2 ^ 64) (jf : i < 2 ^ 64) (g : (r : Reader) → (cm (κ, tt) (r, tt)).ghost) (k : (c (κ, tt) (three s b i)).ghost)
        (Found : Reader → (out.row (κ, tt)).Denot → Type 0)
        (typed : (t : (out.row (κ, tt)).Denot) (u : Val) → Is (out.row (κ, tt)) t (u ∷ []) → Holds (has_ty ty u) × WT u)
        (goes : (r : Reader) (u : Val) → Made s b i r → ent 𝓤 (⋆ 𝓛 (‵ ((ReaderType (κ, tt)).own_val r (u ∷ [])) ∷ lives κ q ∷ [])) (Method.pre (handed κ q r (g r) u)))
        (says : (r : Reader) (t : (out.row (κ, tt)).Denot) (e : AtExit (Taking out) (κ, tt)) → ent 𝓤 ((cm (κ, tt) (r, tt)).ensures (g r) t e) (fact 𝓤 (Found r t)))
        (promised : (r : Reader) (t : (out.row (κ, tt)).Denot) → Made s b i r → Found r t → ent 𝓤 (emp 𝓤) ((c (κ, tt) (three s b i)).ensures k t (at_exit (Three out) (κ, tt) (three s b i) (tt, (tt, (tt, tt)))))) where
      -- the reader's type as a local of a body has it: the lifetime is erased, and what the reader owns does not say its name
      abbrev αᵉ : NamedLft
      αᵉ = record { mir = erased; lft = κ }

      pub asked_walk : (C : Calls 𝓤 H) (Λ : Loops 𝓤 H) → FmC 𝓤 H 𝓛.laws C → Triple 𝓤 (C #at) At → Triple 𝓤 (C method) Method → Is (ShrSlice (named 0) κ u8) s (image_val s ∷ [])
          → ent 𝓤 (⋆ 𝓛 (lives κ q ∷ ‵ (ThreeOwn κ s b i) ∷ [])) (WpFn 𝓤 H C Λ (asks method ty) (image_val s ∷ vint w64 b ∷ vint w64 i ∷ []) (Ends 𝓛 out c κ q s b i k))
      asked_walk C Λ fm known_at_lem known_method p =
          qed 𝓛 (lives κ q ∷ ‵ (ThreeOwn κ s b i) ∷ []) ∵ enter ! C Λ (asks method ty) (image_val s ∷ vint w64 b ∷ vint w64 i ∷ []) _ $
          alloc1 ! (λ l₀. alloc1 ! (λ l₁. alloc1 ! (λ l₂. alloc1 ! (λ l₃. alloc1 ! (λ l₄. alloc0 ! $ params1 ! $
          pass1 ! (init ! 6 refl ((shr_slice_Lawful 𝓛 (named 0) κ u8).typed s (image_val s ∷ []) p).0) $ pass1 ! (init ! 4 refl (tt, record { fits = bf })) $ pass1 ! (init ! 2 refl (tt, record { fits = jf })) $ pass0 ! $
          move ! (11 ∷ []) $ of_three ! κ s b i $ twice ! u8 (uint_row_laws w8) κ s $ to_three ! κ s b i bf jf $ move ! (12 ∷ 0 ∷ []) $ use2 𝓛 (raw (At.pre (to_at κ q s b i))) (goes_at κ q s b i) $
          -- [what is asked for a reader; what the image owns; room for _4; …; _3; …; _2; …; _1; …; room for _0; …]
          calls_at ! fm At known_at_lem (to_at κ q s b i) (and_then ! (load ! (from ! (stop !)) (look ! 8 refl)) (and_then ! (load ! (from ! (stop !)) (look ! 6 refl)) (and_then ! (load ! (from ! (stop !)) (look ! 4 refl)) (no_more !)))) (λ u.
          answered ! tt at.ended (at.clauses 𝓛 mem run) (κ, tt) (three s b i) tt (lives κ q) u (Made s b i) (λ r e. id⊢ 𝓤 _) (λ r e is.
          land ! (from ! (stop !)) (init ! 3 refl ((LL.lawful (T.the_type αᵉ) (T'.the_laws αᵉ) 𝓛).typed r _ is).0) $
          use2 𝓛 (raw (Method.pre (handed κ q r (g r) u))) (goes r u e) $
          calls_at ! fm Method known_method (handed κ q r (g r) u) (and_then ! (load ! (from ! (stop !)) (look ! 2 refl)) (no_more !)) (λ u'.
          answered ! tt (Taking out) cm (κ, tt) (r, tt) (g r) (lives κ q) u' (Found r) (says r) (λ t f is'.
          -- [what the result owns; the token; what the image owns; _4; …; _3; …; _2; …; _1; …; room for _0; …]
          land ! (from ! (stop !)) (init ! 11 refl (typed t u' is')) $
          returns ! (look ! 11 refl) $ forget ! 3 refl $ forget ! 5 refl $ forget ! 7 refl $ forget ! 9 refl $ forget ! 11 refl $
          move ! (11 ∷ 12 ∷ []) $ free1 ! $ move ! (9 ∷ 10 ∷ []) $ free1 ! $ move ! (7 ∷ 8 ∷ []) $ free1 ! $ move ! (5 ∷ 6 ∷ []) $ free1 ! $ move ! (3 ∷ 4 ∷ []) $ free1 ! $ free0 ! $
          by ! (ends 𝓛 out c κ q s b i k bf jf t u' (promised r t e f)))))))))))
