-- The table buffers of boxes side by side in one lent buffer: a box's own is changed and no other, all are made fresh one after the other, a message changes one.
use mathlib.Core.Path.{◌≡◌, refl, sym, ap, ◌∙◌}
use mathlib.Core.Bool.{true, false, cond, not}
use mathlib.Core.List.{List, [], ◌++◌}
use mathlib.Core.Logic.{◌⊎◌, inl, inr}
use Prim.Native.Nat.{ℕ, zero, suc, ◌+◌, ◌-◌, ◌*◌, ◌≤◌, ◌<◌, min}
use native.Mathlib.Nat.{mul-suc, mul-le-mul_left, eq-or-lt_of_le}
use native.Mathlib.Numerals.{add-one}
use native.Mathlib.Omega.{arith}
use lib.Dec.{ltb}
use lib.ListN.{length, take, drop, length-take, length-drop, take-append-drop, drop_of_length-le}
use lib.Seq.{take_all, take-nil, drop-append_seam, drop-drop}
use borrow.Author.Tests.{lt-ltb, le-ltb, ltb-true, ltb-false}
use Rattle.wire.specs.Parts.{part, replaced}
use Rattle.wire.proofs.Parts.{length_part, length-replaced, part-replaced, below_stays, above_stays}
use Rattle.rules.specs.Groups.{is_group}
use Rattle.rules.specs.Tables.{Model}
use Rattle.rules.proofs.Logic.{cases}
use Rattle.table.specs.Fresh.{fresh_buffer}
use Rattle.table.proofs.FreshCall.{small_or_bad, fresh_past}
use Rattle.answer.specs.Calls.{call_number, call_table, call_reply}
use Rattle.answer.proofs.Responding.{left_small}
use Rattle.boxes.specs.Inner.OneBuffer.{buffer_of, with_buffer, start_number, fresh_first, start_tables}

-- ---- places

-- the buffer of a box ends where that of a later one begins, or before
pub ends_before : (L b c : ℕ) → b < c → L * b + L ≤ L * c
ends_before L b c h =
    let l : suc b ≤ c = omega arith in
    let m : L * suc b ≤ L * c = mul-le-mul_left L l in
    let e : L * suc b ≡ L * b + L = mul-suc L b in
    omega arith

one_first : (b c : ℕ) → (b ≡ c → ⊥) → (b < c) ⊎ (c < b)
one_first b c other = go (cases (ltb b c))
  where
    last : (c ≡ b) ⊎ (c < b) → (b < c) ⊎ (c < b)
    last (inl e) = absurd (other (sym e))
    last (inr l) = inr l

    go : (ltb b c ≡ true) ⊎ (ltb b c ≡ false) → (b < c) ⊎ (c < b)
    go (inl t) = inl (ltb-true b c t)
    go (inr t) = last (eq-or-lt_of_le (ltb-false b c t))

-- ---- one buffer is changed, and no other

pub buffer_same : (M : Model) (tables : List ℕ) (b : ℕ) (table : List ℕ) → M.least_buffer * b + M.least_buffer ≤ length tables → length table ≡ M.least_buffer → buffer_of M (with_buffer M tables b table) b ≡ table
buffer_same M tables b table room long =
    ap (part (with_buffer M tables b table) (M.least_buffer * b)) (sym long) ∙ part-replaced tables (M.least_buffer * b) table (omega arith)

pub buffer_other : (M : Model) (tables : List ℕ) (b c : ℕ) (table : List ℕ) → (b ≡ c → ⊥) → M.least_buffer * b + M.least_buffer ≤ length tables → length table ≡ M.least_buffer → buffer_of M (with_buffer M tables b table) c ≡ buffer_of M tables c
buffer_other M tables b c table other room long = go (one_first b c other)
  where
    go : (b < c) ⊎ (c < b) → buffer_of M (with_buffer M tables b table) c ≡ buffer_of M tables c
    go (inl l) =
        let e = ends_before M.least_buffer b c l in
        ap (take M.least_buffer) (above_stays tables (M.least_buffer * b) table (M.least_buffer * c) (omega arith) (omega arith))
    go (inr l) =
        let e = ends_before M.least_buffer c b l in
        below_stays tables (M.least_buffer * b) table (M.least_buffer * c) M.least_buffer (omega arith) (omega arith)

pub length_with : (M : Model) (tables : List ℕ) (b : ℕ) (table : List ℕ) → M.least_buffer * b + M.least_buffer ≤ length tables → length table ≡ M.least_buffer → length (with_buffer M tables b table) ≡ length tables
length_with M tables b table room long = length-replaced tables (M.least_buffer * b) table (omega arith)

-- what stands there, put there
part_kept : (s : List ℕ) (at n : ℕ) → replaced s at (part s at n) ≡ s
unfolding replaced
part_kept s at n =
    let xs : List ℕ = drop at s in
    let e : drop (length (take n (drop at s))) (drop at s) ≡ drop n (drop at s) = ap (drop (length (take n xs))) (sym (take-append-drop n xs)) ∙ drop-append_seam (take n xs) (drop n xs) in
    rw (← drop-drop (length (take n (drop at s))) at s, e, take-append-drop n (drop at s), take-append-drop at s)

pub buffer_kept : (M : Model) (tables : List ℕ) (b : ℕ) → with_buffer M tables b (buffer_of M tables b) ≡ tables
buffer_kept M tables b = part_kept tables (M.least_buffer * b) M.least_buffer

-- ---- as the code lends it

take_least : (n : ℕ) (s : List ℕ) → take (min n (length s)) s ≡ take n s
take_least n s = go (cases (ltb n (length s)))
  where
    go : (ltb n (length s) ≡ true) ⊎ (ltb n (length s) ≡ false) → take (min n (length s)) s ≡ take n s
    go (inl t) = let l : n < length s = ltb-true _ _ t in let e : min n (length s) ≡ n = omega arith in ap (λ k. take k s) e
    go (inr t) = let l : length s ≤ n = ltb-false _ _ t in take_all (min n (length s)) s (omega arith) ∙ sym (take_all n s l)

-- to read: from the smaller of its place and the end, to the smaller of its end and the end
pub part_read : (s : List ℕ) (at n : ℕ) → take (min (at + n) (length s) - min at (length s)) (drop (min at (length s)) s) ≡ part s at n
part_read s at n = go (cases (ltb at (length s)))
  where
    go : (ltb at (length s) ≡ true) ⊎ (ltb at (length s) ≡ false) → take (min (at + n) (length s) - min at (length s)) (drop (min at (length s)) s) ≡ part s at n
    go (inl t) =
        let l : at < length s = ltb-true _ _ t in
        let e : min at (length s) ≡ at = omega arith in
        let d = length-drop at s in
        let f : min (at + n) (length s) - at ≡ min n (length (drop at s)) = omega arith in
        rw (e, f) (take_least n (drop at s))
    go (inr t) =
        let l : length s ≤ at = ltb-false _ _ t in
        let a : drop (min at (length s)) s ≡ [] = drop_of_length-le s {i = min at (length s)} (omega arith) in
        let b : drop at s ≡ [] = drop_of_length-le s l in
        rw (a, b) (take-nil (min (at + n) (length s) - min at (length s)) ∙ sym (take-nil n))

-- to write: what a call leaves in the part that it was lent
part_written : (s ws : List ℕ) (at n : ℕ) → length ws ≡ n → take at s ++ (ws ++ drop n (drop at s)) ≡ replaced s at ws
unfolding replaced
part_written s ws at n e = rw (drop-drop n at s, e)

-- a call is lent the buffer of a box
module _ (M : Model) (tables : List ℕ) (b at n : ℕ) (from : at ≡ M.least_buffer * b) (many : n ≡ M.least_buffer) where
  pub lent_is : take n (drop at tables) ≡ buffer_of M tables b
  lent_is = rw (from, many) refl

  pub lent_back : (ws : List ℕ) → M.least_buffer * b + M.least_buffer ≤ length tables → length ws ≡ length (take n (drop at tables)) → take at tables ++ (ws ++ drop n (drop at tables)) ≡ with_buffer M tables b ws
  lent_back ws room k = part_written tables ws at n (k ∙ length_part tables at n (omega arith)) ∙ ap (λ a. replaced tables a ws) from

-- ---- all boxes fresh

module _ (M : Model) (least : 24 ≤ M.least_buffer) (tables : List ℕ) (n b : ℕ) (room : M.least_buffer * b + M.least_buffer ≤ length tables) where
  fresh_long : length (fresh_buffer M (buffer_of M tables b) n b) ≡ M.least_buffer
  fresh_long = (fresh_past M (buffer_of M tables b) n b least).1 ∙ length_part tables (M.least_buffer * b) M.least_buffer room

module _ (M : Model) (least : 24 ≤ M.least_buffer) (n : ℕ) (tables : List ℕ) where
  before_last : (k : ℕ) → M.least_buffer * suc k ≤ length tables → M.least_buffer * k + M.least_buffer ≤ length tables
  before_last k room = rw (mul-suc M.least_buffer k) at room

  pub first_length : (k : ℕ) → M.least_buffer * k ≤ length tables → length (fresh_first M n k tables) ≡ length tables
  unfolding fresh_first
  first_length zero room = refl
  first_length (suc k) room =
      let r = before_last k room in
      let i : length (fresh_first M n k tables) ≡ length tables = first_length k (omega arith) in
      length_with M (fresh_first M n k tables) k _ (omega arith) (fresh_long M least (fresh_first M n k tables) n k (omega arith)) ∙ i

  -- the buffers of the boxes that come later stay
  first_later : (k c : ℕ) → M.least_buffer * k ≤ length tables → k ≤ c → buffer_of M (fresh_first M n k tables) c ≡ buffer_of M tables c
  unfolding fresh_first
  first_later zero c room l = refl
  first_later (suc k) c room l =
      let r = before_last k room in
      let i : length (fresh_first M n k tables) ≡ length tables = first_length k (omega arith) in
      buffer_other M (fresh_first M n k tables) k c _ (λ e. omega arith) (omega arith) (fresh_long M least (fresh_first M n k tables) n k (omega arith))
      ∙ first_later k c (omega arith) (omega arith)

  first_each : (k b : ℕ) → M.least_buffer * k ≤ length tables → b < k → buffer_of M (fresh_first M n k tables) b ≡ fresh_buffer M (buffer_of M tables b) n b
  unfolding fresh_first
  first_each zero b room l = absurd (omega arith)
  first_each (suc k) b room l = go (λ m. first_each k b (omega (arith, before_last k room)) m) (eq-or-lt_of_le l)
    where
      others : List ℕ
      others = fresh_first M n k tables

      r : M.least_buffer * k + M.least_buffer ≤ length tables
      r = before_last k room

      long : length others ≡ length tables
      long = first_length k (omega (arith, r))

      fits : M.least_buffer * k + M.least_buffer ≤ length others
      fits = omega (arith, r, long)

      go : (b < k → buffer_of M (fresh_first M n k tables) b ≡ fresh_buffer M (buffer_of M tables b) n b) → (suc b ≡ suc k) ⊎ (suc b < suc k) → buffer_of M (fresh_first M n (suc k) tables) b ≡ fresh_buffer M (buffer_of M tables b) n b
      go earlier (inl e) =
          let f : b ≡ k = omega arith in
          rw f (buffer_same M others k _ fits (fresh_long M least others n k fits) ∙ ap (λ s. fresh_buffer M s n k) (first_later k k (omega (arith, r)) (omega arith)))
      go earlier (inr m) = buffer_other M others k b _ (λ e. omega arith) fits (fresh_long M least others n k fits) ∙ earlier (omega arith)

-- each of the first so many boxes has made its own buffer fresh
pub fresh_each : (M : Model) → 24 ≤ M.least_buffer → (n k : ℕ) (tables : List ℕ) → M.least_buffer * k ≤ length tables → ((b : ℕ) → b < k → buffer_of M (fresh_first M n k tables) b ≡ fresh_buffer M (buffer_of M tables b) n b) × (length (fresh_first M n k tables) ≡ length tables)
fresh_each M least n k tables room = (λ b l. first_each M least n tables k b room l, first_length M least n tables k room)

-- one box more, as the loop goes on
pub first_turn : (M : Model) (n k : ℕ) (tables : List ℕ) → fresh_first M n (k + 1) tables ≡ with_buffer M (fresh_first M n k tables) k (fresh_buffer M (buffer_of M (fresh_first M n k tables) k) n k)
unfolding fresh_first
first_turn M n k tables = rw (add-one k)

module _ (M : Model) (tables : List ℕ) (n : ℕ) where
  start_number_lem : start_number M tables n ≡ cond (ltb (length tables) (M.least_buffer * n)) 1 (cond (not (is_group n)) 3 0)
  unfolding start_number
  start_number_lem = small_or_bad (ltb (length tables) (M.least_buffer * n)) (not (is_group n))

  pub start_small : length tables < M.least_buffer * n → start_number M tables n ≡ 1
  start_small l = start_number_lem ∙ rw (lt-ltb _ _ l)

  pub start_small_kept : length tables < M.least_buffer * n → start_tables M tables n ≡ tables
  unfolding start_tables
  start_small_kept l = rw (start_small l)

  module _ (room : M.least_buffer * n ≤ length tables) where
    pub start_bad : is_group n ≡ false → start_number M tables n ≡ 3
    start_bad h = start_number_lem ∙ rw (le-ltb _ _ room, h)

    pub start_bad_kept : is_group n ≡ false → start_tables M tables n ≡ tables
    unfolding start_tables
    start_bad_kept h = rw (start_bad h)

    pub start_done : is_group n ≡ true → start_number M tables n ≡ 0
    start_done h = start_number_lem ∙ rw (le-ltb _ _ room, h)

    pub start_fresh : is_group n ≡ true → start_tables M tables n ≡ fresh_first M n n tables
    unfolding start_tables
    start_fresh h = rw (start_done h)

pub ruleset starts = (start_small, start_small_kept, start_bad, start_bad_kept, start_done, start_fresh)

-- ---- a message arrives

-- a part that the lent buffer cuts off
part_short : (s : List ℕ) (at n : ℕ) → 0 < n → length s < at + n → length (part s at n) < n
part_short s at n p l = simp (length-take, length-drop) (omega arith)

-- no box has a table buffer there: the call is refused, and nothing changes
pub arrives_nowhere : (M : Model) (tables : List ℕ) (b : ℕ) (message reply : List ℕ) → 0 < M.least_buffer → length tables < M.least_buffer * b + M.least_buffer →
    (1 ≡ call_number M (buffer_of M tables b) message reply) × (tables ≡ with_buffer M tables b (call_table M (buffer_of M tables b) message reply)) × (reply ≡ call_reply M (buffer_of M tables b) message reply)
arrives_nowhere M tables b message reply p short =
    let (number, table, kept) = left_small M (buffer_of M tables b) message reply (inl (part_short tables (M.least_buffer * b) M.least_buffer p short)) in
    (number, sym (buffer_kept M tables b) ∙ ap (with_buffer M tables b) table, kept)
