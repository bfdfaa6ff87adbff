-- A run, image after image: what one turn of a walk over it knows, and what it means to be one.
use mathlib.Core.Path.{◌≡◌, refl, sym, ap, ◌∙◌}
use mathlib.Core.Bool.{true, false}
use mathlib.Core.List.Memᴰ
use mathlib.Core.List.{List, [], ◌∷◌, ◌++◌}
use mathlib.Core.Logic.{◌⊎◌, inl, inr}
use mathlib.Core.Option.{Option, none, some}
use Prim.Native.Nat.{ℕ, zero, suc, ◌+◌, ◌-◌, ◌≤◌, ◌<◌}
use native.Mathlib.Omega.{arith}
use lib.ListN.{length, take, drop, length-append, length-drop}
use lib.Seq.{take_all, drop_at, drop-drop}
use Rattle.rules.specs.Tests.{is_some}
use Rattle.rules.specs.Tables.{Table, Model, valley, table_by_rule}
use Rattle.rules.proofs.Logic.{none_some, impossible}
use Rattle.rules.proofs.Lists.{◌∈◌}
use Rattle.table.specs.declared.header.Header.{Header}
use Rattle.table.specs.Headers.{header_at}
use Rattle.table.specs.Images.{format_one, image_length, image}
use Rattle.table.specs.Parse.{parse, table_at, BeginsWithImage}
use Rattle.table.proofs.Images.{Sound, valley_sound, length_image, parse_reads, parse_by_rule, parse_begins, parsed, image_parses}
use Rattle.edit.proofs.Holding.{one_starts}
use Rattle.image_run.specs.Inner.WholeRuns.{laid_out, tables_of, Images}
use Rattle.image_run.specs.Runs.{before, and_more, images_within, images, or_none, one_or_more, run_tables}

-- ---- enough is as good as more

-- no image is empty, so what follows one is shorter
on_alike : (f g : List ℕ → Option (List Table)) (s : List ℕ) → 0 < length s → ((rest : List ℕ) → length rest < length s → f rest ≡ g rest) → (r : Option Table) → and_more f s r ≡ and_more g s r
on_alike f g s p h none = refl
on_alike f g s p h (some T) =
    let l = length-drop (image_length format_one T) s in
    ap (before T) (h (drop (image_length format_one T) s) (omega arith))

enough : (k m : ℕ) (M : Model) (s : List ℕ) → length s ≤ k → length s ≤ m → images_within k M s ≡ images_within m M s
unfolding images_within
enough zero zero M s p q = refl
enough zero (suc m) M [] p q = refl
enough zero (suc m) M (b ∷ s) p q = absurd (omega arith)
enough (suc k) zero M [] p q = refl
enough (suc k) zero M (b ∷ s) p q = absurd (omega arith)
enough (suc k) (suc m) M [] p q = refl
enough (suc k) (suc m) M (b ∷ s) p q = on_alike (λ rest. images_within k M rest) (λ rest. images_within m M rest) (b ∷ s) (omega arith) (λ rest l. enough k m M rest (omega arith) (omega arith)) (parse format_one M (b ∷ s))

-- bytes that are left begin with a table, and what follows its image is read on
pub images_on : (M : Model) (s : List ℕ) → 0 < length s → images M s ≡ and_more (images M) s (parse format_one M s)
unfolding images images_within
images_on M [] p = absurd (omega arith)
images_on M (b ∷ s) p = on_alike (λ rest. images_within (length s) M rest) (images M) (b ∷ s) p (λ rest l. enough (length s) (length rest) M rest (omega arith) (omega arith)) (parse format_one M (b ∷ s))

pub images_none : (M : Model) → images M [] ≡ some []
unfolding images images_within
images_none M = refl

pub nothing_left : (s : List ℕ) (at : ℕ) → length s ≤ at → drop at s ≡ []
nothing_left s at h = go (drop at s) (length-drop at s)
  where
    go : (r : List ℕ) → length r ≡ length s - at → r ≡ []
    go [] e = refl
    go (b ∷ r) e = absurd (omega arith)

-- ---- the first image of a run, and the rest

pub record First (M : Model) (s : List ℕ) (Ts : List Table) : Type 0 where
  pub table : Table
  pub others : List Table
  pub are : Ts ≡ table ∷ others
  pub begins : parse format_one M s ≡ some table
  pub behind : images M (drop (image_length format_one table) s) ≡ some others

pub first : (M : Model) (s : List ℕ) (Ts : List Table) → 0 < length s → images M s ≡ some Ts → First M s Ts
first M s Ts p h = go (parse format_one M s) refl (sym (images_on M s p) ∙ h)
  where
    go : (r : Option Table) → parse format_one M s ≡ r → and_more (images M) s r ≡ some Ts → First M s Ts
    go none e g = none_some g
    go (some T) e g = more (images M (drop (image_length format_one T) s)) refl g
      where
        more : (o : Option (List Table)) → images M (drop (image_length format_one T) s) ≡ o → before T o ≡ some Ts → First M s Ts
        more none d f = none_some f
        more (some Us) d f = record { table = T; others = Us; are = cc; begins = e; behind = d }

-- bytes read as images are images
pub images_are : (M : Model) (s : List ℕ) (Ts : List Table) → images M s ≡ some Ts → Images M s × (tables_of M s ≡ Ts)
unfolding tables_of
images_are M s Ts h = let e : or_none (images M s) ≡ Ts = ap or_none h in (h ∙ ap some (sym e), e)

-- bytes that were seen to be images
pub images_told : (M : Model) (s : List ℕ) → is_some (images M s) ≡ true → Images M s
images_told M s h = go (images M s) refl h
  where
    go : (o : Option (List Table)) → images M s ≡ o → is_some o ≡ true → Images M s
    go none e t = impossible t refl
    go (some Ts) e t = (images_are M s Ts e).0

-- ---- one turn of a walk over a run

pub record Turn (M : Model) (s : List ℕ) (at : ℕ) : Type 0 where
  pub has_image : BeginsWithImage M (drop at s)
  pub here : tables_of M (drop at s) ≡ table_at format_one (drop at s) ∷ tables_of M (drop (at + (header_at (drop at s)).length) s)
  pub onward : Images M (drop (at + (header_at (drop at s)).length) s)
  pub within : at + (header_at (drop at s)).length ≤ length s
  pub least : 24 ≤ (header_at (drop at s)).length

pub turn_of : (M : Model) → Sound format_one M → (s : List ℕ) (at : ℕ) → at < length s → Images M (drop at s) → Turn M s at
turn_of M sound s at l h =
    let r : List ℕ = drop at s in
    let n = length-drop at s in
    let f = first M r (tables_of M r) (omega arith) h in
    let p = parsed format_one M r f.table sound f.begins in
    let e : (header_at r).length ≡ image_length format_one f.table = ap (λ (x : Header). x.length) p.header in
    let t : table_at format_one r ≡ f.table = (parse_reads format_one M r f.table f.begins).0 in
    let d : drop (at + (header_at r).length) s ≡ drop (image_length format_one f.table) r = sym (drop-drop (header_at r).length at s) ∙ ap (λ k. drop k r) e in
    let o = images_are M (drop (at + (header_at r).length) s) f.others (ap (images M) d ∙ f.behind) in
    let w = p.long in
    record {
      has_image = f.begins ∙ ap some (sym t);
      here = f.are ∙ rw (t, o.1) refl;
      onward = o.0;
      within = omega arith;
      least = omega arith;
    }

pub turn : (s : List ℕ) (at : ℕ) → at < length s → Images valley (drop at s) → Turn valley s at
turn = turn_of valley valley_sound

pub walked : (M : Model) (s : List ℕ) (at : ℕ) → length s ≤ at → tables_of M (drop at s) ≡ []
unfolding tables_of
walked M s at h = rw (nothing_left s at h, images_none M) refl

-- the part of a run from a place to its end
pub rest_of : (s : List ℕ) (at : ℕ) → take (length s - at) (drop at s) ≡ drop at s
rest_of s at = take_all (length s - at) (drop at s) (rw (length-drop at s) (omega arith))

-- ---- what a table has from its header

pub n_read : (s : List ℕ) → (table_at format_one s).n ≡ (header_at s).n
unfolding table_at
n_read s = refl

-- ---- what a run is: the images of tables by the rules, laid end to end, and of no others

pub images_laid : (M : Model) → Sound format_one M → (Ts : List Table) → ((T : Table) → T ∈ Ts → table_by_rule M T ≡ true) → images M (laid_out Ts) ≡ some Ts
unfolding laid_out
images_laid M sound [] h = images_none M
images_laid M sound (T ∷ Ts) h =
    let s : List ℕ = image format_one T ++ laid_out Ts in
    let n = length_image format_one T one_starts in
    let l = length-append (image format_one T) (laid_out Ts) in
    let p : parse format_one M s ≡ some T = image_parses format_one M T sound (h T (Memᴰ.head refl)) (laid_out Ts) in
    let d : drop (image_length format_one T) s ≡ laid_out Ts = drop_at (image format_one T) (laid_out Ts) (image_length format_one T) n in
    images_on M s (omega arith) ∙ ap (and_more (images M) s) p ∙ ap (before T) (ap (images M) d ∙ images_laid M sound Ts (λ U m. h U (Memᴰ.tail m)))

no_bytes : (M : Model) (s : List ℕ) → images M s ≡ some [] → s ≡ []
no_bytes M [] h = refl
no_bytes M (b ∷ s) h =
    let e = (first M (b ∷ s) [] (omega arith) h).are in
    let c : ◌≡◌ {A = ℕ} 0 1 = cc in
    absurd (omega arith)

pub some_bytes : (M : Model) (s : List ℕ) (T : Table) (Ts : List Table) → images M s ≡ some (T ∷ Ts) → 0 < length s
some_bytes M [] T Ts h =
    let e : some [] ≡ some (T ∷ Ts) = sym (images_none M) ∙ h in
    let c : ◌≡◌ {A = ℕ} 0 1 = cc in
    absurd (omega arith)
some_bytes M (b ∷ s) T Ts h = omega arith

pub laid_images_lem : (M : Model) (s : List ℕ) (Ts : List Table) → images M s ≡ some Ts → (s ≡ laid_out Ts) × ((T : Table) → T ∈ Ts → table_by_rule M T ≡ true)
unfolding laid_out
laid_images_lem M s [] h = (no_bytes M s h, λ T m. absurd (Memᴰ.not-nil m))
laid_images_lem M s (T ∷ Ts) h =
    let f = first M s (T ∷ Ts) (some_bytes M s T Ts h) h in
    let t : f.table ≡ T = let e = f.are in cc in
    let o : f.others ≡ Ts = let e = f.are in cc in
    let p : parse format_one M s ≡ some T = f.begins ∙ ap some t in
    let b : images M (drop (image_length format_one T) s) ≡ some Ts = rw (t, o) at f.behind in
    let (e, all) = laid_images_lem M (drop (image_length format_one T) s) Ts b in
    let i = parse_begins format_one M s T p in
    let j : drop (length (image format_one T)) s ≡ laid_out Ts = ap (λ k. drop k s) (length_image format_one T one_starts) ∙ e in
    (i ∙ ap (λ (z : List ℕ). image format_one T ++ z) j, λ U m. go U all (Memᴰ.cases_cons m) (parse_by_rule format_one M s T p))
  where
    go : (U : Table) → ((W : Table) → W ∈ Ts → table_by_rule M W ≡ true) → (U ≡ T) ⊎ (U ∈ Ts) → table_by_rule M T ≡ true → table_by_rule M U ≡ true
    go U all (inl q) r = ap (table_by_rule M) q ∙ r
    go U all (inr m) r = all U m

-- ---- "one or more whole images"

more_than_none : (o : Option (List Table)) (Ts : List Table) → one_or_more o ≡ some Ts → (o ≡ some Ts) × (0 < length Ts)
more_than_none none Ts h = none_some h
more_than_none (some []) Ts h = none_some h
more_than_none (some (T ∷ Us)) Ts h = let e : T ∷ Us ≡ Ts = cc in (h, rw (← e) (omega arith))

pub run_read : (M : Model) (s : List ℕ) (Ts : List Table) → run_tables M s ≡ some Ts → (images M s ≡ some Ts) × (0 < length Ts)
unfolding run_tables
run_read M s Ts h = more_than_none (images M s) Ts h

pub run_images : (M : Model) (s : List ℕ) (Ts : List Table) → run_tables M s ≡ some Ts → Images M s × (tables_of M s ≡ Ts) × (0 < length s)
run_images M s Ts h = go Ts (run_read M s Ts h)
  where
    go : (Us : List Table) → (images M s ≡ some Us) × (0 < length Us) → Images M s × (tables_of M s ≡ Us) × (0 < length s)
    go [] (e, p) = absurd (omega arith)
    go (T ∷ Us) (e, p) = let i = images_are M s (T ∷ Us) e in (i.0, i.1, some_bytes M s T Us e)

-- bytes that were seen to be a run
pub run_told : (M : Model) (s : List ℕ) → is_some (run_tables M s) ≡ true → Images M s × (run_tables M s ≡ some (tables_of M s)) × (0 < length s)
run_told M s h = go (run_tables M s) refl h
  where
    go : (o : Option (List Table)) → run_tables M s ≡ o → is_some o ≡ true → Images M s × (run_tables M s ≡ some (tables_of M s)) × (0 < length s)
    go none e t = impossible t refl
    go (some Ts) e t = let r = run_images M s Ts e in (r.0, e ∙ ap some (sym r.1), r.2)

-- and those that were seen to be none
pub not_run : (M : Model) (s : List ℕ) → is_some (run_tables M s) ≡ false → run_tables M s ≡ none
not_run M s h = go (run_tables M s) refl h
  where
    go : (o : Option (List Table)) → run_tables M s ≡ o → is_some o ≡ false → run_tables M s ≡ none
    go none e t = e
    go (some Ts) e t = impossible refl t

pub run_laid : (M : Model) (s : List ℕ) (Ts : List Table) → run_tables M s ≡ some Ts → (0 < length Ts) × ((T : Table) → T ∈ Ts → table_by_rule M T ≡ true) × (s ≡ laid_out Ts)
run_laid M s Ts h =
    let (e, p) = run_read M s Ts h in
    let l = laid_images_lem M s Ts e in
    (p, l.1, l.0)

pub laid_run : (M : Model) → Sound format_one M → (Ts : List Table) → 0 < length Ts → ((T : Table) → T ∈ Ts → table_by_rule M T ≡ true) → run_tables M (laid_out Ts) ≡ some Ts
unfolding run_tables
laid_run M sound [] p h = absurd (omega arith)
laid_run M sound (T ∷ Ts) p h = ap one_or_more (images_laid M sound (T ∷ Ts) h)
