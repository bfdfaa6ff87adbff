-- The image of message 6: what the look for it tells, and what it has to be, test by test.
use mathlib.Core.Path.{◌≡◌, refl}
use mathlib.Core.Bool.{true, false}
use mathlib.Core.Logic.{◌⊎◌, ◌≢◌, inl, inr}
use mathlib.Core.List.{List}
use Rattle.std.specs.Prelude as given
use Prim.Native.Nat.{ℕ, ◌+◌, ◌*◌, ◌%◌, ◌≤◌}
use native.Mathlib.Omega.{arith}
use lib.Dec.{eqb}
use lib.ListN.{length}
use borrow.Author.Tests.{eq-eqb, ne_eqb}
use Rattle.wire.proofs.Stands.{stands_inside}
use Rattle.rules.specs.Tests.{both, every}
use Rattle.rules.specs.Tables.{Model, table_by_rule}
use Rattle.rules.specs.Circumstances.{settled, starts_view}
use Rattle.rules.proofs.Logic.{cases, both_right, both_true, both_assoc}
use Rattle.rows.specs.Read.{rows_at, begins}
use Rattle.rows.proofs.RowsRead.{length-rows_at}
use Rattle.rows.proofs.Begins.{begins_stands}
use Rattle.table.specs.Headers.{header_at}
use Rattle.table.specs.Images.{Form, format_one, image, image_length}
use Rattle.table.specs.Parse.{table_at, parse, image_found}
use Rattle.message.specs.Inner.Begun.{starts_at}
use Rattle.table.proofs.Images.{length_image, parse_reads, parse_facts}
use Rattle.table.proofs.Found.{found_table}

-- ---- what the look for an image tells

pub image_found_lem : (F : Form) (M : Model) (s : List ℕ) (length : ℕ) → image_found F (parse F M s) ≡ given.Some length →
    let I = table_at F s in
    (both (table_by_rule M I) (begins s (image F I)) ≡ true) × (length ≡ image_length F I)
image_found_lem F M s length h =
    let (T, p, l) = found_table F M s length h in
    let e = (parse_reads F M s T p).0 in
    let f = parse_facts F M s T p in
    (rw e (both_true f.0 f.1), rw e l)

pub nothing_found_lem : (F : Form) (M : Model) (s : List ℕ) → image_found F (parse F M s) ≡ given.None →
    let I = table_at F s in
    both (table_by_rule M I) (begins s (image F I)) ≡ false
unfolding parse
nothing_found_lem F M s h =
    let I = table_at F s in
    go (cases (both (table_by_rule M I) (begins s (image F I))))
  where
    go : let I = table_at F s in
        let t = both (table_by_rule M I) (begins s (image F I)) in
        (t ≡ true) ⊎ (t ≡ false) → t ≡ false
    go (inl e) =
        let f : given.Some (image_length F (table_at F s)) ≡ given.None = rw e at h in
        let z : ◌≡◌ {A = ℕ} 0 1 = cc in
        absurd (omega arith)
    go (inr e) = e

-- the rows of an image lie inside the bytes that begin with it
pub rows_inside : (s : List ℕ) → begins s (image format_one (table_at format_one s)) ≡ true → 24 + 24 * (header_at s).rows ≤ length s
unfolding table_at
rows_inside s h =
    let I = table_at format_one s in
    let n = length_image format_one I (λ rows. refl) in
    let r : length (rows_at s 24 (header_at s).rows) ≡ (header_at s).rows = length-rows_at s 24 (header_at s).rows in
    let i = stands_inside s 0 (image format_one I) (begins_stands s 0 (image format_one I) h) (omega arith) in
    omega arith

module _ (M : Model) (n v : ℕ) (s : List ℕ) where
  -- bytes with no image start nothing
  pub nothing_starts : image_found format_one (parse format_one M s) ≡ given.None → starts_at format_one M n v s ≡ false
  unfolding starts_at both
  nothing_starts h = rw (nothing_found_lem format_one M s h)

  -- an image with nothing behind it starts a view if its table does
  pub image_starts : (length_found : ℕ) → image_found format_one (parse format_one M s) ≡ given.Some length_found → length_found ≡ length s → starts_at format_one M n v s ≡ starts_view n v (table_at format_one s)
  unfolding starts_at both
  image_starts length_found h e = let f = image_found_lem format_one M s length_found h in rw (f.0, ← f.1, eq-eqb length_found (length s) e)

  pub longer_starts : (length_found : ℕ) → image_found format_one (parse format_one M s) ≡ given.Some length_found → length_found ≢ length s → starts_at format_one M n v s ≡ false
  unfolding starts_at both
  longer_starts length_found h e = let f = image_found_lem format_one M s length_found h in rw (f.0, ← f.1, ne_eqb length_found (length s) e)

  pub found_inside : (length_found : ℕ) → image_found format_one (parse format_one M s) ≡ given.Some length_found → 24 + 24 * (header_at s).rows ≤ length s
  found_inside length_found h = rows_inside s (both_right _ _ (image_found_lem format_one M s length_found h).0)

-- ---- what its header and its rows have to be

pub starts_tests : (n v : ℕ) (s : List ℕ) →
    let h = header_at s in
    starts_view n v (table_at format_one s)
    ≡ both (both (both (eqb h.mode 0) (both (eqb h.view v) (eqb h.boxnumber (v % n)))) (both (eqb h.n n) (eqb h.start h.rows))) (every settled (rows_at s 24 h.rows))
unfolding starts_view table_at
starts_tests n v s = rw length-rows_at (simp both_assoc)
