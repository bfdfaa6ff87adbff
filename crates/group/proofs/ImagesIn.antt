-- The image that a buffer begins with, in its bytes and as a table.
use mathlib.Core.Path.{◌≡◌, refl, sym, ap, ap₂, ◌∙◌}
use mathlib.Core.Bool.{true}
use mathlib.Core.List.Memᴰ
use mathlib.Core.List.{List, [], ◌∷◌, ◌++◌, map}
use mathlib.Core.Option.{some}
use Prim.Native.Nat.{ℕ}
use lib.ListN.{length, drop}
use lib.Seq.{take_at}
use Rattle.rules.specs.Tables.{Table, Model, table_by_rule}
use Rattle.table.specs.Headers.{header_at}
use Rattle.table.specs.Images.{format_one, image}
use Rattle.table.specs.Parse.{table_at, parse, BeginsWithImage}
use Rattle.table.proofs.Images.{Sound, parse_reads, parse_begins, parse_by_rule, header_says}
use Rattle.image_run.specs.Inner.WholeRuns.{laid_out}
use Rattle.history.specs.Survival.{◌∈◌}
use Rattle.group.specs.Said.{image_in, laid_images}

-- bytes that parse begin with the image that is read off them
pub begins_with : (M : Model) (s : List ℕ) (T : Table) → parse format_one M s ≡ some T → BeginsWithImage M s
begins_with M s T p = p ∙ ap some (sym (parse_reads format_one M s T p).0)

image_first : (M : Model) (T : Table) (rest : List ℕ) → Sound format_one M → table_by_rule M T ≡ true → image_in (image format_one T ++ rest) ≡ image format_one T
unfolding image_in header_at
image_first M T rest sound r = rw (header_says format_one M T sound r rest) (take_at (image format_one T) rest _ refl)

-- what a buffer's total length cuts off is the image that it begins with
pub image_in_lem : (M : Model) (s : List ℕ) → Sound format_one M → BeginsWithImage M s → image_in s ≡ image format_one (table_at format_one s)
image_in_lem M s sound p =
    let T : Table = table_at format_one s in
    ap image_in (parse_begins format_one M s T p) ∙ image_first M T (drop (length (image format_one T)) s) sound (parse_by_rule format_one M s T p)

pub images_in : (M : Model) (ss : List (List ℕ)) → Sound format_one M → ((s : List ℕ) → s ∈ ss → BeginsWithImage M s) → laid_images ss ≡ laid_out (map (table_at format_one) ss)
unfolding laid_images laid_out
images_in M [] sound each = refl
images_in M (s ∷ ss) sound each = ap₂ ◌++◌ (image_in_lem M s sound (each s (Memᴰ.head refl))) (images_in M ss sound (λ t m. each t (Memᴰ.tail m)))
