-- What the walks by hand over a lent list of replies share: what such a list is to a walk, and the frame of a function that takes n and a list.
use mathlib.Core.Path.{refl}
use mathlib.Core.List.{List, [], ◌∷◌}
use Prim.Native.Nat.{ℕ, ◌<◌, ◌^◌}
use seplogic.Ra.Ura.{Ura}
use mir.Syntax.{Fn, Ty, named, imm, w8, ty_ref}
use mir.Val.{Val, vint}
use base.Logic.{SProp, ent, emp, via, fst∗}
use base.Fml.{Lft, Share, Fml}
use prog.Wp.{WpFn, Tables}
use types.Logic.{Logic}
use types.Kit.{Item, ‵, raw, ⋆, Goal, Step, ◌$◌, ◌∵◌, !, qed, step, move, drop, use0, join, fsplit, fjoin, suffices, frame, done}
use sound.WpLaws.{WpFn-mono}
use denote.Builtin.{u8}
use denote.Exit.{yes}
use denote.Laws.{Is, Makes}
use denote.Memory.{pointee}
use denote.Plain.{uint_vals, uint_Tells, uint_Makes}
use denote.RattleType.{owns}
use denote.Ref.{Bor}
use denote.Signature.{Slot, plain, shr_slice_of}
use denote.Slice.{slice_ty, ShrSlice, shr_slice_vals, shr_slice_Tells}
use denote.Steps.{owned, nothing}
use denote.Triple.Clauses.{Ended, Clauses, at_exit, closing}
use denote.Triple.Spec.{Meets}
use denote.Triple.Walked.{Stay, Stays, stay_none, stay_none_slice, walk_of, Goes-none, Goes-none_slice, ends_at, walked, walk_Meets}
use Rattle.wire.proofs.HandWalks.{slice_as, SliceOwn, lives}
use Rattle.replies.specs.declared.held.Reply.{Reply}
use Rattle.replies.specs.contracts.held.Reply as R

-- ---- a lent list of replies

-- pointer and length, as a local has them
abbrev pub list_val : Bor (List Reply) → Val
list_val = slice_as R.the_row

-- their type in a local
abbrev pub list_ty : Ty
list_ty = slice_ty (ty_ref (named 0) imm (pointee (R.the_row).written))

-- what the reference to it owns: alone, as the one parameter, and as the parameter after n
abbrev pub ListOwn : Lft → Bor (List Reply) → Fml
ListOwn = SliceOwn R.the_row

abbrev pub ListedOwn : Lft → Bor (List Reply) → Fml
ListedOwn κ s = owns (ShrSlice (named 0) κ R.the_row ∷ []) (s, tt) (list_val s ∷ [], tt)

abbrev pub SizedOwn : Lft → ℕ → Bor (List Reply) → Fml
SizedOwn κ n s = owns (u8 ∷ ShrSlice (named 0) κ R.the_row ∷ []) (n, (s, tt)) (vint w8 n ∷ [], (list_val s ∷ [], tt))

-- it is had at the end as it was passed
abbrev pub stay_list : Stay {n = 1} (shr_slice_of (0 ∷ []) tt (plain (λ _. R.the_row))) yes
stay_list = stay_none_slice (0 ∷ []) tt (plain (λ _. R.the_row)) yes

module _ {M : Type 1} {𝓤 : Ura M} {𝓛 : Logic 𝓤} {K : Type 0} {Γ : List (Item 𝓤)} {G : Goal 𝓤 𝓛.H} where
  pub to_listed : K → (κ : Lft) (s : Bor (List Reply)) → Step K 𝓛 (‵ (ListedOwn κ s) ∷ Γ) G (‵ (ListOwn κ s) ∷ Γ) G
  to_listed t κ s = step (λ k. nothing t $ move t (1 ∷ 0 ∷ []) $ fjoin t $ k)

  -- what a number owns is had of its bound alone
  pub to_sized : K → (κ : Lft) (n : ℕ) (s : Bor (List Reply)) → n < 2 ^ 8 → Step K 𝓛 (‵ (SizedOwn κ n s) ∷ Γ) G (‵ (ListOwn κ s) ∷ Γ) G
  to_sized t κ n s l = step (λ k. to_listed t κ s $ owned t u8 (Is u8) (uint_Makes 𝓛 w8) n _ (refl, l) $ fjoin t $ k)

  pub of_sized : K → (κ : Lft) (n : ℕ) (s : Bor (List Reply)) → Step K 𝓛 (‵ (ListOwn κ s) ∷ Γ) G (‵ (SizedOwn κ n s) ∷ Γ) G
  of_sized t κ n s = step (λ k. fsplit t $ drop t $ fsplit t $ move t (1 ∷ []) $ drop t $ k)

-- ---- a function that takes n and a list, with any result

abbrev Sized : Slot 1 → Ended
Sized out = record {
  signature = record { lifetimes = 1; outlives = []; params = plain (λ _. u8) ∷ shr_slice_of (0 ∷ []) tt (plain (λ _. R.the_row)) ∷ []; result = out };
  kept = (yes, (yes, tt));
}

abbrev sized_stay : (out : Slot 1) → Stays (Sized out).signature.params (Sized out).kept
sized_stay out = (stay_none (λ _. u8) yes, (stay_list, tt))

module _ {M : Type 1} {𝓤 : Ura M} (𝓛 : Logic 𝓤) (out : Slot 1) (c : Clauses 𝓤 (Sized out)) where
  -- what is to hold where a walk of it ends
  open 𝓛 use {H}

  abbrev pub Ends : (κ : Lft) → Share → (n : ℕ) (s : Bor (List Reply)) → (c (κ, tt) (n, (s, tt))).ghost → Val → SProp 𝓤
  Ends κ q n s g = (walk_of 𝓛 (Sized out) (sized_stay out) c).post (((κ, tt), (q, tt), tt, (n, (s, tt)), (vint w8 n ∷ [], (list_val s ∷ [], tt))), g)

  module _ where
    -- what makes it hold: a result that facts alone make, and what is promised of it
    pub ends : (κ : Lft) (q : Share) (n : ℕ) (s : Bor (List Reply)) (g : (c (κ, tt) (n, (s, tt))).ghost) → n < 2 ^ 8 → (r : (out.row (κ, tt)).Denot) (v : Val)
        → Makes 𝓛 (out.row (κ, tt)) (Is (out.row (κ, tt))) → Is (out.row (κ, tt)) r (v ∷ [])
        → ent 𝓤 (emp 𝓤) ((c (κ, tt) (n, (s, tt))).ensures g r (at_exit (Sized out) (κ, tt) (n, (s, tt)) (tt, (tt, tt)))) → ent 𝓤 (⋆ 𝓛 (lives κ q ∷ ‵ (ListOwn κ s) ∷ [])) (Ends κ q n s g v)
    ends κ q n s g l r v makes is said =
        qed 𝓛 (lives κ q ∷ ‵ (ListOwn κ s) ∷ []) ∵
        suffices ! _ (ends_at 𝓛 (Sized out) (sized_stay out) c (((κ, tt), (q, tt), tt, (n, (s, tt)), (vint w8 n ∷ [], (list_val s ∷ [], tt))), g) v r (tt, (tt, tt)) (tt, (tt, tt))) $
        owned ! (out.row (κ, tt)) (Is (out.row (κ, tt))) makes r (v ∷ []) is $ move ! (2 ∷ []) $ to_sized ! κ n s l $ join ! $ move ! (1 ∷ 0 ∷ []) $ join ! $ frame ! $
        use0 𝓛 (raw ((c (κ, tt) (n, (s, tt))).ensures g r (at_exit (Sized out) (κ, tt) (n, (s, tt)) (tt, (tt, tt))))) said $ done !

    -- it meets its contract, if it is walked from its parameters
    pub sized_meets : (fn : Fn) (𝓣 : Tables 𝓤 H)
        → ((κ : Lft) (q : Share) (n : ℕ) (s : Bor (List Reply)) (g : (c (κ, tt) (n, (s, tt))).ghost) → n < 2 ^ 8 → Is (ShrSlice (named 0) κ R.the_row) s (list_val s ∷ [])
        → ent 𝓤 (⋆ 𝓛 (lives κ q ∷ ‵ (SizedOwn κ n s) ∷ [])) (WpFn 𝓤 H 𝓣.C 𝓣.Λ fn (vint w8 n ∷ list_val s ∷ []) (Ends κ q n s g)))
        → Meets 𝓛 (Sized out).signature (WpFn 𝓤 H 𝓣.C 𝓣.Λ fn) (closing 𝓛 (Sized out) c)
    sized_meets fn 𝓣 walk =
        walk_Meets 𝓛 (Sized out) (sized_stay out) (Goes-none 𝓛 1 (λ _. u8) yes (λ κs x f. refl), (Goes-none_slice 𝓛 1 (0 ∷ []) tt (plain (λ _. R.the_row)) yes, tt)) c (WpFn 𝓤 H 𝓣.C 𝓣.Λ fn) (WpFn-mono 𝓤 H 𝓛.laws 𝓣 fn)
        (walked 𝓛 (Sized out) (sized_stay out) c (WpFn 𝓤 H 𝓣.C 𝓣.Λ fn) (λ κs. (uint_vals w8, (shr_slice_vals, tt))) (λ κs. (uint_Tells w8, (shr_slice_Tells (named 0) κs.0 R.the_row, tt)))
        (λ κs qs bounds a g are. via 𝓤 _ (fst∗ 𝓤 _ ((c κs a).requires g)) (walk κs.0 qs.0 a.0 a.1.0 g are.0.1 are.1.0)))
