-- A run is looked through for images, one after the other: what each turn finds, and what is known at the end.
use mathlib.Core.Path.{◌≡◌, refl, sym, ap, ◌∙◌}
use mathlib.Core.Bool.{true, false}
use mathlib.Core.List.{List, [], ◌∷◌}
use mathlib.Core.Option.{Option, none, some}
use Rattle.std.specs.Prelude as given
use Prim.Native.Nat.{ℕ, ◌-◌, ◌≤◌, ◌<◌}
use native.Mathlib.Omega.{arith}
use lib.Dec.{ltb}
use lib.ListN.{length, take, drop, length-append}
use borrow.Author.Tests.{lt-ltb}
use Rattle.rules.specs.Tests.{both, is_some}
use Rattle.rules.specs.Tables.{Table, Model}
use Rattle.rules.proofs.Logic.{both_false, both_whole}
use Rattle.table.specs.Images.{format_one, image_length, image}
use Rattle.table.specs.Parse.{parse, image_found}
use Rattle.table.proofs.Images.{length_image, parse_begins}
use Rattle.table.proofs.Found.{found_table}
use Rattle.edit.proofs.Holding.{one_starts}
use Rattle.image_run.specs.Runs.{before, and_more, images, one_or_more, run_tables}
use Rattle.image_run.proofs.RunTurns.{rest_of, images_on, images_none}

after_image : (M : Model) (s : List ℕ) (T : Table) → parse format_one M s ≡ some T → image_length format_one T ≤ length s
after_image M s T p =
    let n = length_image format_one T one_starts in
    let e = ap length (parse_begins format_one M s T p) in
    let l = length-append (image format_one T) (drop (length (image format_one T)) s) in
    omega arith

found_on : (o : Option (List Table)) (T : Table) → is_some (before T o) ≡ is_some o
found_on none T = refl
found_on (some Ts) T = refl

-- an image of n bytes was found at the start of bytes that are left
pub whole_turn : (M : Model) (s : List ℕ) (n : ℕ) → 0 < length s → image_found format_one (parse format_one M s) ≡ given.Some n → (0 < n) × (n ≤ length s) × (is_some (images M (take (length s - n) (drop n s))) ≡ is_some (images M s))
whole_turn M s n l h =
    let (T, p, e) = found_table format_one M s n h in
    let w = after_image M s T p in
    let on : images M s ≡ before T (images M (drop n s)) = images_on M s l ∙ ap (and_more (images M) s) p ∙ ap (λ k. before T (images M (drop k s))) (sym e) in
    (omega arith, omega arith, rw (rest_of s n, on) (sym (found_on (images M (drop n s)) T)))

pub whole_not : (M : Model) (s : List ℕ) → 0 < length s → image_found format_one (parse format_one M s) ≡ given.None → is_some (images M s) ≡ false
whole_not M s l h = ap is_some (images_on M s l) ∙ go (parse format_one M s) h
  where
    go : (r : Option Table) → image_found format_one r ≡ given.None → is_some (and_more (images M) s r) ≡ false
    go none e = refl
    go (some T) e = let z : ◌≡◌ {A = ℕ} 0 1 = cc in absurd (omega arith)

pub whole_end : (M : Model) (s : List ℕ) → length s ≡ 0 → is_some (images M s) ≡ true
whole_end M [] l = rw (images_none M) refl
whole_end M (b ∷ s) l = absurd (omega arith)

-- a run is whole images, and not empty
pub whole_run : (M : Model) (s : List ℕ) → is_some (run_tables M s) ≡ both (ltb 0 (length s)) (is_some (images M s))
unfolding run_tables both
whole_run M [] = rw (images_none M) refl
whole_run M (b ∷ s) = rw (lt-ltb 0 (length (b ∷ s)) (omega arith), images_on M (b ∷ s) (omega arith)) (go (parse format_one M (b ∷ s)))
  where
    more : (o : Option (List Table)) (T : Table) → is_some (one_or_more (before T o)) ≡ is_some (before T o)
    more none T = refl
    more (some Ts) T = refl

    go : (r : Option Table) → is_some (one_or_more (and_more (images M) (b ∷ s) r)) ≡ is_some (and_more (images M) (b ∷ s) r)
    go none = refl
    go (some T) = more (images M (drop (image_length format_one T) (b ∷ s))) T

-- so of bytes that are whole images it is asked only whether there are any, and of others nothing
pub whole_seen : (M : Model) (s : List ℕ) → is_some (images M s) ≡ true → ltb 0 (length s) ≡ is_some (run_tables M s)
whole_seen M s seen = sym (whole_run M s ∙ ap (both _) seen ∙ both_whole _)

pub whole_unseen : (M : Model) (s : List ℕ) → is_some (images M s) ≡ false → false ≡ is_some (run_tables M s)
whole_unseen M s unseen = sym (whole_run M s ∙ ap (both _) unseen ∙ both_false _)
