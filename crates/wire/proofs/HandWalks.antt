-- Rules for walks by hand: a lent slice, a call that has returned, and the test of a `while`. Functions that hold a reference in a struct, or go over a list of structs, were walked by them. Today the check walks such functions by itself.
-- Nothing of bytes is in them. They stand here because every crate with such a function is above this one.
use mathlib.Core.Bool.{Bool, not}
use mathlib.Core.List.{List, [], ◌∷◌}
use Prim.Native.Nat.{ℕ}
use seplogic.Ra.Ura.{Ura}
use lib.Dec.{T}
use lib.ListN.{length}
use mir.Syntax.{named, Opd as Operand, Body, skip, seq, cond, exit}
use mir.Val.{Val, vbool}
use base.Logic.{ent, via, snd∗, ex_e, id⊢}
use base.Fml.{Lft, Share, Fml, ftrue, flft}
use prog.Wp.{exits, Env, Calls, Loops}
use types.Logic.{Logic, sem}
use contract.Lifetimes.{Lfts}
use contract.Monad.{fact}
use types.Kit.{Item, ‵, raw, ◌⊛◌, some, later, mean, Post, post, Goal, Soaks, prop, runs, Seq, Step, ◌$◌, step, move, drop, use1, split, pick, await}
use types.Run.{Opd, first, branches, skips, jumps}
use denote.Laws.{Is, shows}
use denote.RattleType.{RattleType, RowLaws}
use denote.Ref.{Bor}
use denote.Signature.{type_at}
use denote.Slice.{slice_val, ShrSlice, shr_slice_copy}
use denote.Steps.{peeks, heard}
use denote.Triple.Clauses.{Ended, Clauses, AtExit, at_exit, lasts, ensured}
use denote.Triple.Entry.{Args, Res}

-- the token of the one lifetime of a function
abbrev pub lives : {M : Type 1} {𝓤 : Ura M} → Lft → Share → Item 𝓤
lives κ q = ‵ (flft κ q) ⊛ ‵ ftrue

-- ---- a lent slice, with elements of any type

-- pointer and length, as a local has them
abbrev pub slice_as : (R : RattleType) → Bor (List R.Denot) → Val
slice_as R s = slice_val s.ref_ptr (length s.now)

-- what the reference to it owns
abbrev pub SliceOwn : (R : RattleType) → Lft → Bor (List R.Denot) → Fml
SliceOwn R κ s = (ShrSlice (named 0) κ R).own_val s (slice_as R s ∷ [])

-- what a call has left: its result, of which the machine has u, and the tokens i
module _ {M : Type 1} {𝓤 : Ura M} (𝓛 : Logic 𝓤) (F : Ended) (c : Clauses 𝓤 F) (κs : Lfts F.signature.lifetimes) (a : Args F.signature κs) (g : (c κs a).ghost) where
  abbrev Left : Item 𝓤 → Val → Item 𝓤
  Left i u = later (some (λ (r : Res F.signature κs). (i ⊛ ‵ ((type_at F.signature.result κs).own_val r (u ∷ []))) ⊛ raw (ensured 𝓛 F c κs a g r)))

  -- no parameter was changed, so what is said of last values is let go
  said : (r : Res F.signature κs) (P : Type 0) → ((e : AtExit F κs) → ent 𝓤 ((c κs a).ensures g r e) (fact 𝓤 P)) → ent 𝓤 (ensured 𝓛 F c κs a g r) (fact 𝓤 P)
  said r P says = ex_e 𝓤 _ (λ ws. via 𝓤 ((c κs a).ensures g r (at_exit F κs a ws)) (snd∗ 𝓤 (sem 𝓛 (lasts F κs a ws)) ((c κs a).ensures g r (at_exit F κs a ws))) (says (at_exit F κs a ws)))

module _ {M : Type 1} {𝓤 : Ura M} {𝓛 : Logic 𝓤} {K : Type 0} {Γ : List (Item 𝓤)} where
  open 𝓛 use {H}

  module _ {G : Goal 𝓤 H} where
    -- the reference is Copy, since what a `&` to an element holds can be had twice (`RowLaws`): a walk keeps one and passes one on
    pub twice : K → (R : RattleType) → RowLaws R → (κ : Lft) (s : Bor (List R.Denot)) → Step K 𝓛 (‵ (SliceOwn R κ s) ∷ ‵ (SliceOwn R κ s) ∷ Γ) G (‵ (SliceOwn R κ s) ∷ Γ) G
    twice t R L κ s = step (λ k. use1 𝓛 (‵ (SliceOwn R κ s) ⊛ ‵ (SliceOwn R κ s)) ((shr_slice_copy 𝓛 (named 0) κ R L).twice s (slice_as R s ∷ [])) $ split t $ k)

    -- ---- a call has returned: what its contract says of the result is learned, and what u is
    pub answered : K → Soaks G → (F : Ended) (c : Clauses 𝓤 F) (κs : Lfts F.signature.lifetimes) (a : Args F.signature κs) (g : (c κs a).ghost) (i : Item 𝓤) (u : Val)
        (P : Res F.signature κs → Type 0) → ((r : Res F.signature κs) (e : AtExit F κs) → ent 𝓤 ((c κs a).ensures g r e) (fact 𝓤 (P r)))
        → ((r : Res F.signature κs) → P r → Is (type_at F.signature.result κs) r (u ∷ []) → Seq K 𝓛 (‵ ((type_at F.signature.result κs).own_val r (u ∷ [])) ∷ i ∷ Γ) G)
        → Seq K 𝓛 (raw (mean 𝓛 (Left 𝓛 F c κs a g i u)) ∷ Γ) G
    answered t z F c κs a g i u P says k =
        use1 𝓛 (Left 𝓛 F c κs a g i u) (id⊢ 𝓤 _) $ await t z $ pick t (λ r.
        split t $ move t (1 ∷ []) $ use1 𝓛 (raw (fact 𝓤 (P r))) (said 𝓛 F c κs a g r (P r) (says r)) $ heard t (P r) (λ p.
        split t $ move t (1 ∷ []) $ peeks t (type_at F.signature.result κs) (Is (type_at F.signature.result κs)) (shows 𝓛 (type_at F.signature.result κs)) r (u ∷ []) (k r p)))

    -- the same of a result that facts alone make: what it owns is let go
    pub answers : K → Soaks G → (F : Ended) (c : Clauses 𝓤 F) (κs : Lfts F.signature.lifetimes) (a : Args F.signature κs) (g : (c κs a).ghost) (i : Item 𝓤) (u : Val)
        (P : Res F.signature κs → Type 0) → ((r : Res F.signature κs) (e : AtExit F κs) → ent 𝓤 ((c κs a).ensures g r e) (fact 𝓤 (P r)))
        → ((r : Res F.signature κs) → P r → Is (type_at F.signature.result κs) r (u ∷ []) → Seq K 𝓛 (i ∷ Γ) G)
        → Seq K 𝓛 (raw (mean 𝓛 (Left 𝓛 F c κs a g i u)) ∷ Γ) G
    answers t z F c κs a g i u P says k = answered t z F c κs a g i u P says (λ r p is. drop t $ k r p is)

  module _ {E : Env 𝓤 H} {C : Calls 𝓤 H} {Λ : Loops 𝓤 H} {q : Post 𝓤 H} where
    -- ---- the test at the head of a `while`, of which it is not known how it goes: what follows is walked once for each way
    pub tests : K → {c : Operand} {n : ℕ} {b : Body} {y : Bool} → Opd K 𝓛 Γ E c (vbool y)
        → (T y → Seq K 𝓛 Γ (runs C Λ E b q)) → (T (not y) → Seq K 𝓛 Γ (prop (post 𝓤 H q (exits n)))) → Seq K 𝓛 Γ (runs C Λ E (seq (cond c skip (exit n)) b) q)
    tests t o turns leaves = first t $ branches t o (λ h. skips t $ record { prf = (turns h).prf }) (λ h. jumps t $ record { prf = (leaves h).prf })
