-- A walk over a run gives the tables of the run, in their order.
use mathlib.Core.Path.{◌≡◌, refl, sym, ap, ◌∙◌}
use mathlib.Core.Bool.{Bool, true, false}
use mathlib.Core.List.{List, [], ◌∷◌}
use Prim.Native.Nat.{ℕ, zero, suc, ◌+◌, ◌≤◌, max}
use native.Mathlib.Omega.{arith}
use native.Mathlib.Nat.{zero-max, max-zero}
use lib.ListN.{length, drop, length-drop}
use Rattle.std.specs.Prelude.{Option, ◌||◌}
use denote.Ref.{Bor}
use denote.Param.Members.{Mut, Called}
use Rattle.std.specs.Iterator.{ChecksAny, Drains}
use Rattle.std.specs.List.{list_any, fold}
use Rattle.std.proofs.lemmas.Iterator.{YieldsList}
use Rattle.std.proofs.lemmas.Iterator.Consumers.{YieldsList-from_shown, count_from_yields_List}
use Rattle.std.proofs.lemmas.Iterator.Search.{any_from_yields_List}
use Rattle.rules.specs.Tests.{either, any, greatest}
use Rattle.rules.specs.Tables.{Table, valley}
use Rattle.rules.proofs.Lists.{max_assoc}
use Rattle.table.specs.Headers.{header_at}
use Rattle.table.specs.Images.{format_one}
use Rattle.table.specs.Parse.{table_at}
use Rattle.image_run.specs.declared.walk.ImagesOf.{ImagesOf}
use Rattle.image_run.specs.Inner.WholeRuns.{tables_of, Images}
use Rattle.image_run.specs.Inner.Walk.{GivesImage}
use Rattle.image_run.proofs.RunTurns.{turn, walked, images_none, images_told}

abbrev pub steps : ImagesOf → Option (Bor (List ℕ)) → ImagesOf → Type 0
steps s r t = GivesImage s.rest.now r t.rest.now

pub none_left : (s : List ℕ) → s ≡ [] → tables_of valley s ≡ []
unfolding tables_of
none_left s e = rw (e, images_none valley) refl

pub tables_walked : (s : ImagesOf) → YieldsList steps (λ x. table_at format_one x.now) s (tables_of valley s.rest.now)
tables_walked = YieldsList-from_shown steps (λ x. table_at format_one x.now) (λ s. tables_of valley s.rest.now) (λ s t g. ap length (none_left s.rest.now g.0)) (λ s x t g. rw g.0 g.1.tables)

any_of : {A : Type 0} (test : A → Bool) (xs : List A) → list_any test xs ≡ any test xs
unfolding any either
any_of test [] = refl
any_of test (x ∷ xs) = go (test x) (any_of test xs)
  where
    go : (b : Bool) {y z : Bool} → y ≡ z → (b || y) ≡ either b z
    go true e = refl
    go false e = e

-- `any` asks the tables
pub any_walked : {F : Type 0} {g : Mut F (Bor (List ℕ) × Unit {0}) Bool} (test : Table → Bool) (run : List ℕ) (s u : ImagesOf) {f : F} {r : Bool} → s.rest.now ≡ run → ChecksAny steps g s f r u
    → ((x : Bor (List ℕ)) (b : Bool) (q : F) → Called g f (x, tt) b q → (q ≡ f) × (b ≡ test (table_at format_one x.now))) → r ≡ any test (tables_of valley run)
any_walked test run s u {f} {r} e ran asks = any_from_yields_List test u f r ran (tables_walked s) asks ∙ any_of test _ ∙ rw e refl

-- no image is empty, so a run has no more of them than bytes
tables_below : (n : ℕ) (s : List ℕ) → length s ≤ n → Images valley s → length (tables_of valley s) ≤ length s
tables_below n [] l are = rw (walked valley [] 0 (omega arith)) (omega arith)
tables_below zero (b ∷ s) l are = absurd (omega arith)
tables_below (suc n) (b ∷ s) l are =
    let t = turn (b ∷ s) 0 (omega arith) are in
    let far = t.least in
    let d = length-drop (0 + (header_at (b ∷ s)).length) (b ∷ s) in
    let later = tables_below n (drop (0 + (header_at (b ∷ s)).length) (b ∷ s)) (omega arith) t.onward in
    let e = ap length t.here in
    omega arith

-- `count` counts the tables
pub fewer_than_bytes : (s : ImagesOf) → length (tables_of valley s.rest.now) ≤ length s.rest.now
fewer_than_bytes s = tables_below (length s.rest.now) s.rest.now (omega arith) (images_told valley s.rest.now s.whole)

pub count_walked : (run : List ℕ) (s : ImagesOf) {r : ℕ} → s.rest.now ≡ run → ((xs : List (Bor (List ℕ))) × Drains steps s xs × (r ≡ length xs)) → r ≡ length (tables_of valley run)
count_walked run s {r} e ran = count_from_yields_List s r ran (tables_walked s) ∙ rw e refl

-- the greatest number so far, with those of the tables that are left
greatest_fold : {A : Type 0} (number : A → ℕ) (n : ℕ) (xs : List A) → fold (λ m x. max m (number x)) n xs ≡ max n (greatest number xs)
unfolding greatest
greatest_fold number n [] = sym (max-zero n)
greatest_fold number n (x ∷ xs) = greatest_fold number (max n (number x)) xs ∙ max_assoc _ _ _

pub greatest_of : {A : Type 0} (number : A → ℕ) (xs : List A) → fold (λ m x. max m (number x)) 0 xs ≡ greatest number xs
greatest_of number xs = greatest_fold number 0 xs ∙ zero-max _
