-- What the walks by hand around the reader share: what an image, where its rows begin and an index are to a walk, and the frames of a function that takes these three and of one that takes a reader.
use mathlib.Core.Path.{◌≡◌, refl}
use mathlib.Core.List.{List, [], ◌∷◌}
use Prim.Native.Nat.{ℕ, ◌+◌, ◌*◌, ◌≤◌, ◌<◌, ◌^◌}
use seplogic.Ra.Ura.{Ura}
use mir.Syntax.{Fn, Ty, named, imm, w8, w64, ty_int, ty_ref}
use lib.Dec.{T as Holds}
use lib.ListN.{length}
use mir.Val.{Val, WT, has_ty, vint}
use base.Logic.{SProp, ent, sep, emp}
use base.Fml.{Lft, Share, Fml}
use prog.Wp.{WpFn, Tables}
use types.Logic.{Logic}
use contract.Lifetimes.{Lfts}
use types.Kit.{Item, ‵, raw, ◌⊛◌, given, ⋆, Goal, Step, ◌$◌, ◌∵◌, !, qed, step, move, drop, use0, use1, split, join, learn, fsplit, fjoin, suffices, frame, done}
use sound.WpLaws.{WpFn-mono}
use denote.Builtin.{u8, usize}
use denote.Exit.{yes}
use denote.Laws.{Is}
use denote.Plain.{uint_vals, uint_Tells, uint_Makes}
use denote.RattleType.{RattleType, owns}
use denote.Ref.{Bor}
use denote.Signature.{Slot, plain, shr_slice_of, named_lft}
use denote.Slice.{slice_ty, ShrSlice, shr_slice_vals, shr_slice_Tells}
use denote.Steps.{owned, nothing}
use denote.Struct.Laws as LL
use denote.Struct.Rest.{all_own, field_own, rest, own_open, own_out}
use denote.Triple.Clauses.{Ended, Clauses, at_exit, closing}
use denote.Triple.Spec.{Meets}
use denote.Triple.Walked.{Stays, stay_none, stay_none_slice, walk_of, Goes-none, Goes-none_slice, ends_at, walked, walk_Meets}
use Rattle.wire.proofs.HandWalks.{slice_as, SliceOwn, lives}
use Rattle.rows.specs.declared.reader.Reader.{Reader}
use Rattle.rows.specs.declared.row.RowFields.{RowFields}
use Rattle.rows.specs.Fields.{fields_at}
use Rattle.rows.specs.Inner.Rows.{BodyInside, body_part}
use Rattle.rows.specs.contracts.reader.Reader as T
use Rattle.rows.proofs.reader.Reader.TheLaws as T'

-- the reader's type, over a signature's one lifetime
abbrev pub ReaderType : Lfts 1 → RattleType
ReaderType κs = T.the_row (named_lft 1 0 tt κs)

-- ---- an image and two numbers

abbrev pub image_val : Bor (List ℕ) → Val
image_val = slice_as u8

abbrev ImageOwn : Lft → Bor (List ℕ) → Fml
ImageOwn = SliceOwn u8

-- the three as they are passed, what the machine has of them, and what they own together
abbrev pub three : Bor (List ℕ) → ℕ → ℕ → Bor (List ℕ) × (ℕ × (ℕ × Unit {0}))
three s b i = (s, (b, (i, tt)))

abbrev pub three_vals : Bor (List ℕ) → ℕ → ℕ → List Val × (List Val × (List Val × Unit {0}))
three_vals s b i = (image_val s ∷ [], (vint w64 b ∷ [], (vint w64 i ∷ [], tt)))

abbrev pub ThreeOwn : Lft → Bor (List ℕ) → ℕ → ℕ → Fml
ThreeOwn κ s b i = owns (ShrSlice (named 0) κ u8 ∷ usize ∷ usize ∷ []) (three s b i) (three_vals s b i)

module _ {M : Type 1} {𝓤 : Ura M} {𝓛 : Logic 𝓤} {K : Type 0} {Γ : List (Item 𝓤)} {G : Goal 𝓤 𝓛.H} where
  -- what a number owns is had of its bound alone, so of the three only the image's part is carried
  pub to_three : K → (κ : Lft) (s : Bor (List ℕ)) (b i : ℕ) → b < 2 ^ 64 → i < 2 ^ 64 → Step K 𝓛 (‵ (ThreeOwn κ s b i) ∷ Γ) G (‵ (ImageOwn κ s) ∷ Γ) G
  to_three t κ s b i bf jf =
      step
      (λ k. nothing t $ owned t usize (Is usize) (uint_Makes 𝓛 w64) i _ (refl, jf) $ fjoin t $ owned t usize (Is usize) (uint_Makes 𝓛 w64) b _ (refl, bf) $ fjoin t $
      move t (1 ∷ 0 ∷ []) $ fjoin t $ k)

  pub of_three : K → (κ : Lft) (s : Bor (List ℕ)) (b i : ℕ) → Step K 𝓛 (‵ (ImageOwn κ s) ∷ Γ) G (‵ (ThreeOwn κ s b i) ∷ Γ) G
  of_three t κ s b i = step (λ k. fsplit t $ move t (1 ∷ []) $ drop t $ k)

-- ---- a function that takes the three, with any result

abbrev pub Three : Slot 1 → Ended
Three out = record {
  signature = record { lifetimes = 1; outlives = []; params = shr_slice_of (0 ∷ []) tt (plain (λ _. u8)) ∷ plain (λ _. usize) ∷ plain (λ _. usize) ∷ []; result = out };
  kept = (yes, (yes, (yes, tt)));
}

abbrev stay_three : (out : Slot 1) → Stays (Three out).signature.params (Three out).kept
stay_three out = (stay_none_slice (0 ∷ []) tt (plain (λ _. u8)) yes, (stay_none (λ _. usize) yes, (stay_none (λ _. usize) yes, tt)))

module _ {M : Type 1} {𝓤 : Ura M} (𝓛 : Logic 𝓤) (out : Slot 1) (c : Clauses 𝓤 (Three out)) where
  -- what is to hold where a walk of it ends
  open 𝓛 use {H}

  abbrev pub Ends : (κ : Lft) → Share → (s : Bor (List ℕ)) (b i : ℕ) → (c (κ, tt) (three s b i)).ghost → Val → SProp 𝓤
  Ends κ q s b i g = (walk_of 𝓛 (Three out) (stay_three out) c).post (((κ, tt), (q, tt), tt, three s b i, three_vals s b i), g)

  module _ where
    -- what makes it hold: what the result owns, and what is promised of it
    pub ends : (κ : Lft) (q : Share) (s : Bor (List ℕ)) (b i : ℕ) (g : (c (κ, tt) (three s b i)).ghost) → b < 2 ^ 64 → i < 2 ^ 64 → (r : (out.row (κ, tt)).Denot) (v : Val)
        → ent 𝓤 (emp 𝓤) ((c (κ, tt) (three s b i)).ensures g r (at_exit (Three out) (κ, tt) (three s b i) (tt, (tt, (tt, tt)))))
        → ent 𝓤 (⋆ 𝓛 (‵ ((out.row (κ, tt)).own_val r (v ∷ [])) ∷ lives κ q ∷ ‵ (ImageOwn κ s) ∷ [])) (Ends κ q s b i g v)
    ends κ q s b i g bf jf r v said =
        qed 𝓛 (‵ ((out.row (κ, tt)).own_val r (v ∷ [])) ∷ lives κ q ∷ ‵ (ImageOwn κ s) ∷ []) ∵
        suffices ! _ (ends_at 𝓛 (Three out) (stay_three out) c (((κ, tt), (q, tt), tt, three s b i, three_vals s b i), g) v r (tt, (tt, (tt, tt))) (tt, (tt, (tt, tt)))) $
        move ! (2 ∷ []) $ to_three ! κ s b i bf jf $ join ! $ move ! (1 ∷ 0 ∷ []) $ join ! $ frame ! $
        use0 𝓛 (raw ((c (κ, tt) (three s b i)).ensures g r (at_exit (Three out) (κ, tt) (three s b i) (tt, (tt, (tt, tt)))))) said $ done !

    -- it meets its contract, if it is walked from its parameters and what it asks
    pub three_meets : (fn : Fn) (𝓣 : Tables 𝓤 H)
        → ((κ : Lft) (q : Share) (s : Bor (List ℕ)) (b i : ℕ) (g : (c (κ, tt) (three s b i)).ghost) → b < 2 ^ 64 → i < 2 ^ 64 → Is (ShrSlice (named 0) κ u8) s (image_val s ∷ [])
        → ent 𝓤 (sep 𝓤 (⋆ 𝓛 (lives κ q ∷ ‵ (ThreeOwn κ s b i) ∷ [])) ((c (κ, tt) (three s b i)).requires g)) (WpFn 𝓤 H 𝓣.C 𝓣.Λ fn (image_val s ∷ vint w64 b ∷ vint w64 i ∷ []) (Ends κ q s b i g)))
        → Meets 𝓛 (Three out).signature (WpFn 𝓤 H 𝓣.C 𝓣.Λ fn) (closing 𝓛 (Three out) c)
    three_meets fn 𝓣 walk =
        walk_Meets 𝓛 (Three out) (stay_three out) (Goes-none_slice 𝓛 1 (0 ∷ []) tt (plain (λ _. u8)) yes, (Goes-none 𝓛 1 (λ _. usize) yes (λ κs x f. refl), (Goes-none 𝓛 1 (λ _. usize) yes (λ κs x f. refl), tt)))
        c (WpFn 𝓤 H 𝓣.C 𝓣.Λ fn) (WpFn-mono 𝓤 H 𝓛.laws 𝓣 fn)
        (walked 𝓛 (Three out) (stay_three out) c (WpFn 𝓤 H 𝓣.C 𝓣.Λ fn) (λ κs. (shr_slice_vals, (uint_vals w64, (uint_vals w64, tt)))) (λ κs. (shr_slice_Tells (named 0) κs.0 u8, (uint_Tells w64, (uint_Tells w64, tt))))
        (λ κs qs bounds a g are. walk κs.0 qs.0 a.0 a.1.0 a.1.1.0 g are.1.0.1 are.1.1.0.1 are.0))

-- ---- a function that takes a reader, with any result

-- what the machine has of a reader, and what the reader owns: alone, and as the one parameter
abbrev pub reader_val : Reader → Val
reader_val = T'.lowered

abbrev ReaderOwn : Lft → Reader → Fml
ReaderOwn κ d = (ReaderType (κ, tt)).own_val d (reader_val d ∷ [])

abbrev pub TakenOwn : Lft → Reader → Fml
TakenOwn κ d = owns (ReaderType (κ, tt) ∷ []) (d, tt) (reader_val d ∷ [], tt)

module _ {M : Type 1} {𝓤 : Ura M} {𝓛 : Logic 𝓤} {K : Type 0} {Γ : List (Item 𝓤)} {G : Goal 𝓤 𝓛.H} where
  -- the reader is Copy: one copy of what it owns is kept, and of the other the image's part is taken out
  pub apart : K → (κ : Lft) (d : Reader) → d.begin < 2 ^ 64 → d.index < 2 ^ 64 → Step K 𝓛 (‵ (ThreeOwn κ d.image d.begin d.index) ∷ ‵ (ReaderOwn κ d) ∷ Γ) G (‵ (TakenOwn κ d) ∷ Γ) G
  apart t κ d bf jf =
      let D = T.the_type (named_lft 1 0 tt (κ, tt)) in
      let L = T'.the_laws (named_lft 1 0 tt (κ, tt)) in
      let vd = three d.image d.begin d.index in
      step
      (λ k. fsplit t $ move t (1 ∷ []) $ drop t $ use1 𝓛 (‵ (ReaderOwn κ d) ⊛ ‵ (ReaderOwn κ d)) ((LL.copy D (T'.the_copy (named_lft 1 0 tt (κ, tt))) 𝓛).twice d (reader_val d ∷ [])) $ split t $
      use1 𝓛 (given (reader_val d ∷ [] ≡ reader_val d ∷ []) (‵ (all_own D.parts L vd))) (own_open 𝓛 D L vd (reader_val d)) $ learn t (λ _. use1 𝓛 (‵ (field_own D.parts L 0 d.image) ⊛ ‵ (rest D.parts L 0 vd)) (own_out 𝓛 D.parts L 0 vd) $ split t $
      move t (1 ∷ []) $ drop t $ to_three t κ d.image d.begin d.index bf jf $ k))

abbrev pub Taking : Slot 1 → Ended
Taking out = record { signature = record { lifetimes = 1; outlives = []; params = plain ReaderType ∷ []; result = out }; kept = (yes, tt) }

abbrev stay_reader : (out : Slot 1) → Stays (Taking out).signature.params (Taking out).kept
stay_reader out = (stay_none ReaderType yes, tt)

module _ {M : Type 1} {𝓤 : Ura M} (𝓛 : Logic 𝓤) (out : Slot 1) (c : Clauses 𝓤 (Taking out)) where
  open 𝓛 use {H}

  abbrev pub TakenEnds : (κ : Lft) → Share → (d : Reader) → (c (κ, tt) (d, tt)).ghost → Val → SProp 𝓤
  TakenEnds κ q d g = (walk_of 𝓛 (Taking out) (stay_reader out) c).post (((κ, tt), (q, tt), tt, (d, tt), (reader_val d ∷ [], tt)), g)

  module _ where
    pub taken_ends : (κ : Lft) (q : Share) (d : Reader) (g : (c (κ, tt) (d, tt)).ghost) (r : (out.row (κ, tt)).Denot) (v : Val) → ent 𝓤 (emp 𝓤) ((c (κ, tt) (d, tt)).ensures g r (at_exit (Taking out) (κ, tt) (d, tt) (tt, tt)))
        → ent 𝓤 (⋆ 𝓛 (‵ ((out.row (κ, tt)).own_val r (v ∷ [])) ∷ lives κ q ∷ ‵ (ReaderOwn κ d) ∷ [])) (TakenEnds κ q d g v)
    taken_ends κ q d g r v said =
        qed 𝓛 (‵ ((out.row (κ, tt)).own_val r (v ∷ [])) ∷ lives κ q ∷ ‵ (ReaderOwn κ d) ∷ []) ∵
        suffices ! _ (ends_at 𝓛 (Taking out) (stay_reader out) c (((κ, tt), (q, tt), tt, (d, tt), (reader_val d ∷ [], tt)), g) v r (tt, tt) (tt, tt)) $
        nothing ! $ move ! (3 ∷ 0 ∷ []) $ fjoin ! $ join ! $ move ! (1 ∷ 0 ∷ []) $ join ! $ frame ! $
        use0 𝓛 (raw ((c (κ, tt) (d, tt)).ensures g r (at_exit (Taking out) (κ, tt) (d, tt) (tt, tt)))) said $ done !

    pub taken_meets : (fn : Fn) (𝓣 : Tables 𝓤 H)
        → ((κ : Lft) (q : Share) (d : Reader) (g : (c (κ, tt) (d, tt)).ghost) → Holds (has_ty (T'.mir (named 0)) (reader_val d)) × WT (reader_val d)
        → ent 𝓤 (sep 𝓤 (⋆ 𝓛 (lives κ q ∷ ‵ (TakenOwn κ d) ∷ [])) ((c (κ, tt) (d, tt)).requires g)) (WpFn 𝓤 H 𝓣.C 𝓣.Λ fn (reader_val d ∷ []) (TakenEnds κ q d g)))
        → Meets 𝓛 (Taking out).signature (WpFn 𝓤 H 𝓣.C 𝓣.Λ fn) (closing 𝓛 (Taking out) c)
    taken_meets fn 𝓣 walk =
        walk_Meets 𝓛 (Taking out) (stay_reader out) (Goes-none 𝓛 1 ReaderType yes (λ κs x f. refl), tt) c (WpFn 𝓤 H 𝓣.C 𝓣.Λ fn) (WpFn-mono 𝓤 H 𝓛.laws 𝓣 fn)
        (walked 𝓛 (Taking out) (stay_reader out) c (WpFn 𝓤 H 𝓣.C 𝓣.Λ fn) (λ κs. (LL.vals (T.the_type (named_lft 1 0 tt κs)) (T'.the_laws (named_lft 1 0 tt κs)), tt)) (λ κs. (LL.tells (T.the_type (named_lft 1 0 tt κs)) (T'.the_laws (named_lft 1 0 tt κs)), tt))
        (λ κs qs bounds a g are. walk κs.0 qs.0 a.0 g ((LL.lawful (T.the_type (named_lft 1 0 tt κs)) (T'.the_laws (named_lft 1 0 tt κs)) 𝓛).typed a.0 _ are.0).0))

-- ---- what is known of a reader that was made

abbrev pub Made : Bor (List ℕ) → ℕ → ℕ → Reader → Type 0
Made s b i r = (r.image ≡ s) × (r.begin ≡ b) × (r.index ≡ i)

-- what is made of its three is made of those that it was made of
pub made_same : {B : Type 0} (f : Bor (List ℕ) → ℕ → ℕ → B) (s : Bor (List ℕ)) (b i : ℕ) (r : Reader) → Made s b i r → f r.image r.begin r.index ≡ f s b i
made_same f s b i r e = rw (e.0, e.1, e.2)

-- and what holds of those holds of its three
pub made_holds : (P : Bor (List ℕ) → ℕ → ℕ → Type 0) (s : Bor (List ℕ)) (b i : ℕ) (r : Reader) → Made s b i r → P s b i → P r.image r.begin r.index
made_holds P s b i r e p = rw (e.0, e.1, e.2) p

-- ---- what is asked of the three, and what is found: for a row, and for its body

abbrev pub RowAsked : Bor (List ℕ) → ℕ → ℕ → Type 0
RowAsked s b i = b + 24 * i + 24 ≤ length s.now

abbrev pub row_found : Bor (List ℕ) → ℕ → ℕ → RowFields
row_found s b i = fields_at s.now (b + 24 * i)

abbrev pub BodyAsked : Bor (List ℕ) → ℕ → ℕ → Type 0
BodyAsked s b i = RowAsked s b i × BodyInside s.now (row_found s b i)

abbrev pub body_found : Bor (List ℕ) → ℕ → ℕ → List ℕ
body_found s b i = body_part s.now (row_found s b i)

-- a body is lent as the image is
abbrev pub part : Slot 1
part = shr_slice_of (0 ∷ []) tt (plain (λ _. u8))

abbrev pub part_ty : Ty
part_ty = slice_ty (ty_ref (named 0) imm (ty_int w8))
