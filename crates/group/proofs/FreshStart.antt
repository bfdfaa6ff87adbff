-- Boxes that have all called fresh on their buffers are the fresh group.
use mathlib.Core.Path.{◌≡◌, refl, sym, ap, ◌∙◌}
use mathlib.Core.Bool.{true, false}
use mathlib.Core.Logic.{◌⊎◌, inl, inr}
use mathlib.Core.List.Memᴰ
use mathlib.Core.List.{List, [], map-map}
use mathlib.Core.Option.{some}
use Prim.Native.Nat.{ℕ, ◌+◌, ◌*◌, ◌≤◌, ◌<◌}
use native.Mathlib.Omega.{arith}
use lib.Dec.{ltb}
use lib.ListN.{length}
use borrow.Author.Tests.{ltb-true, ltb-false}
use Rattle.rules.specs.Groups.{is_group}
use Rattle.rules.specs.Tables.{Model, fresh_table}
use Rattle.rules.specs.Circumstances.{too_small}
use Rattle.rules.proofs.Logic.{cases}
use Rattle.table.specs.Images.{format_one}
use Rattle.table.specs.Parse.{table_at, parse}
use Rattle.table.specs.Fresh.{fresh_number, fresh_buffer}
use Rattle.table.proofs.Images.{Sound, parse_reads}
use Rattle.table.proofs.FreshCall.{fresh_small, fresh_past, fresh_parses}
use Rattle.history.specs.Survival.{boxes_below, fresh_group}
use Rattle.history.proofs.Follow.Following.{below_from}
use Rattle.group.specs.Acts.{fresh_boxes}
use Rattle.group.proofs.Reading.{tables_in, reading}
use Rattle.group.proofs.Listed.{map_same}
use Rattle.group.proofs.ImagesIn.{begins_with}
use Rattle.group.proofs.Good.{Kept, Good}

module _ (M : Model) (sound : Sound format_one M) (room : 24 + 96 * M.row_limit ≤ M.least_buffer) (n : ℕ) (group : is_group n ≡ true) (buffers : ℕ → List ℕ) (fresh : (b : ℕ) → b < n → fresh_number M (buffers b) n b ≡ 0) where
  fresh_table_lem : (b : ℕ) → b < n → parse format_one M (fresh_buffer M (buffers b) n b) ≡ some (fresh_table n b)
  fresh_table_lem b l = fresh_parses M (buffers b) n b sound (fresh b l)

  table_is : (b : ℕ) → b < n → table_at format_one (fresh_buffer M (buffers b) n b) ≡ fresh_table n b
  table_is b l = (parse_reads format_one M _ (fresh_table n b) (fresh_table_lem b l)).0

  tables_fresh : (b : ℕ) → tables_in M n (λ c. fresh_buffer M (buffers c) n c) b ≡ fresh_table n b
  tables_fresh b = go (cases (ltb b n))
    where
      go : (ltb b n ≡ true) ⊎ (ltb b n ≡ false) → tables_in M n (λ c. fresh_buffer M (buffers c) n c) b ≡ fresh_table n b
      go (inl t) = rw t (table_is b (ltb-true _ _ t))
      go (inr t) = rw t refl

  pub fresh_read : reading M (fresh_boxes M n buffers) ≡ fresh_group n
  unfolding fresh_boxes fresh_group
  fresh_read = λ i. record {
    n = n;
    table = λ b. tables_fresh b i;
    had = (map-map (table_at format_one) (λ b. fresh_buffer M (buffers b) n b) (boxes_below n) ∙ map_same (λ b. table_at format_one (fresh_buffer M (buffers b) n b)) (fresh_table n) (boxes_below n) (λ b m. table_is b (below_from n b m))) i;
    sent = [];
    answers = [];
    declared = [];
    merged = [];
  }

  fresh_large : (b : ℕ) → b < n → M.least_buffer ≤ length (fresh_buffer M (buffers b) n b)
  unfolding too_small
  fresh_large b l = go (cases (too_small M (length (buffers b))))
    where
      go : (too_small M (length (buffers b)) ≡ true) ⊎ (too_small M (length (buffers b)) ≡ false) → M.least_buffer ≤ length (fresh_buffer M (buffers b) n b)
      go (inl t) = let d : ◌≡◌ {A = ℕ} 1 0 = sym (fresh_small M (buffers b) n b t).0 ∙ fresh b l in absurd (omega arith)
      go (inr t) = let k = (fresh_past M (buffers b) n b (omega arith)).1 in let j = ltb-false (length (buffers b)) M.least_buffer t in omega arith

  fresh_kept : (b : ℕ) → b < n → Kept M n b (fresh_buffer M (buffers b) n b)
  unfolding fresh_table
  fresh_kept b l =
      record {
        large = fresh_large b l;
        image = begins_with M _ (fresh_table n b) (fresh_table_lem b l);
        box = ap (λ T. T.box) (table_is b l);
        group = ap (λ T. T.n) (table_is b l);
      }

  pub fresh_good : Good M (fresh_boxes M n buffers)
  unfolding fresh_boxes
  fresh_good =
      record {
        group = group;
        buffers = fresh_kept;
        had = λ s m. let (b, i, e) = Memᴰ.of_map (λ c. fresh_buffer M (buffers c) n c) (boxes_below n) m in rw (← e) (fresh_kept b (below_from n b i)).image;
        replies = λ a m. absurd (Memᴰ.not-nil m);
        outputs = λ a m. absurd (Memᴰ.not-nil m);
      }
