-- Replies as bytes, 15 each: what was written is read back and counted as the list of records is, and a walk over the bytes reads one reply after the other.
use mathlib.Core.Path.{◌≡◌, refl, sym, ap, subst, ◌∙◌}
use mathlib.Core.Bool.{Bool, true, false}
use mathlib.Core.Logic.{◌⊎◌, inl, inr}
use mathlib.Core.List.Memᴰ
use mathlib.Core.List.{List, [], ◌∷◌, ◌++◌, map}
use Prim.Native.Nat.{ℕ, zero, suc, ◌*◌, ◌/◌, ◌^◌, ◌<◌, ◌+◌, ◌-◌, ◌≤◌}
use native.Mathlib.Nat.{add-zero}
use native.Mathlib.Omega.{arith}
use lib.Dec.{eqb, leb}
use lib.ListN.{length, drop, length-append, length-map}
use lib.Seq.{drop_at, drop-drop}
use borrow.Author.Tests.{eqb-false, eq-eqb, ne_eqb}
use Rattle.wire.specs.Numbers.{number_at}
use Rattle.wire.proofs.Numbers.{length_bytes}
use Rattle.wire.proofs.Stands.{stands_between}
use Rattle.wire.proofs.Fields.{field_read, last_read}
use Rattle.rules.specs.Tests.{bit, every}
use Rattle.rules.specs.Tables.{result_by_rule}
use Rattle.rules.specs.Numbers.{Number.bad_message, number_code}
use Rattle.rules.specs.Count as rules
use Rattle.rules.proofs.Logic.{same?, both_true}
use Rattle.rules.proofs.Lists.{◌∈◌}
use Rattle.message.proofs.Forms.{result_small, result_read_lem}
use Rattle.replies.specs.declared.held.Reply.{Reply}
use Rattle.replies.specs.PlainReplies.{result_read, heard, all_heard}
use Rattle.count.specs.Calls.{count_of, reply_at, replies_of, count_bytes}
use Rattle.count.specs.Inner.RecordBytes.{reply_of, record_bytes, records_bytes, all_bytes}
use Rattle.count.proofs.Counts.{many_bad}

-- ---- a walk over the bytes

-- a reply is read from the rest as from the whole
pub reply_dropped : (s : List ℕ) (at : ℕ) → reply_at (drop at s) 0 ≡ reply_at s at
unfolding reply_at number_at
reply_dropped s at = simp (drop-drop, add-zero)

-- the reply at a place, and then those from the next place on
pub replies_turn : (s : List ℕ) (at : ℕ) → at + 15 ≤ length s → replies_of ((length s - at) / 15) (drop at s) ≡ reply_at s at ∷ replies_of ((length s - (at + 15)) / 15) (drop (at + 15) s)
unfolding replies_of
replies_turn s at l =
    let e : (length s - at) / 15 ≡ suc ((length s - (at + 15)) / 15) = omega arith in
    rw (e, reply_dropped s at, drop-drop 15 at s)

-- at the end there are none
pub replies_end : (s : List ℕ) (at : ℕ) → length s ≤ at → replies_of ((length s - at) / 15) (drop at s) ≡ []
unfolding replies_of
replies_end s at l = let e : (length s - at) / 15 ≡ 0 = omega arith in rw e refl

-- ---- whole replies, or not

-- as many are read as are asked for
pub length_replies_of : (k : ℕ) (s : List ℕ) → length (replies_of k s) ≡ k
unfolding replies_of
length_replies_of zero s = refl
length_replies_of (suc k) s = ap suc (length_replies_of k (drop 15 s))

-- of whole replies all are counted
pub count_whole : (n : ℕ) (s : List ℕ) → length s ≡ 15 * (length s / 15) → count_bytes n s ≡ count_of n (replies_of (length s / 15) s)
unfolding count_bytes
count_whole n s e = rw (eq-eqb (length s) (15 * (length s / 15)) e)

-- other bytes are a bad message
pub count_broken : (n : ℕ) (s : List ℕ) → (length s ≡ 15 * (length s / 15) → ⊥) → count_bytes n s ≡ rules.Counted.refused (number_code bad_message)
unfolding count_bytes
count_broken n s e = rw (ne_eqb (length s) (15 * (length s / 15)) e)

-- and so are more bytes than those of seven replies
pub count_long : (n : ℕ) (s : List ℕ) → 105 < length s → count_bytes n s ≡ rules.Counted.refused (number_code bad_message)
count_long n s l = go (same? (length s) (15 * (length s / 15)))
  where
    go : (length s ≡ 15 * (length s / 15)) ⊎ (eqb (length s) (15 * (length s / 15)) ≡ false) → count_bytes n s ≡ rules.Counted.refused (number_code bad_message)
    go (inl e) =
        let k = length_replies_of (length s / 15) s in
        count_whole n s e ∙ many_bad n (replies_of (length s / 15) s) (omega arith)
    go (inr d) = count_broken n s (eqb-false _ _ d)

-- ---- replies that were written

-- 15 bytes a reply
length_record : (r : Reply) → length (record_bytes r) ≡ 15
unfolding record_bytes
length_record r = simp (length-append, length_bytes)

-- and as many for each of a list
length_all : (rs : List Reply) → length (records_bytes rs) ≡ 15 * length rs
unfolding records_bytes
length_all [] = refl
length_all (r ∷ rs) = rw (length-append, length_record r, length_all rs) (omega arith)

-- each number of a record fits its field, as C's types have it
pub record FieldsFit (r : Reply) : Type 0 where
  pub boxnumber : r.boxnumber < 256
  pub view : r.view < 2 ^ 32
  pub result : r.result < 256
  pub retry : r.retry < 2 ^ 64
  pub finality : r.finality < 256

-- so it is with all of a list
abbrev pub AllFit : List Reply → Type 0
AllFit rs = (r : Reply) → r ∈ rs → FieldsFit r

-- a reply that was written is read
pub reply_read : (r : Reply) (rest : List ℕ) → FieldsFit r → reply_at (record_bytes r ++ rest) 0 ≡ r
unfolding reply_at record_bytes
reply_read r rest k =
    let s : List ℕ = record_bytes r ++ rest in
    let a = field_read 1 r.boxnumber s 0 1 _ k.boxnumber refl (stands_between [] (record_bytes r) rest 0 refl) in
    let b = field_read 4 r.view s 1 5 _ k.view refl a.1 in
    let c = field_read 1 r.result s 5 6 _ k.result refl b.1 in
    let d = field_read 8 r.retry s 6 14 _ k.retry refl c.1 in
    let e = last_read 1 r.finality s 14 k.finality d.1 in
    rw (a.0, b.0, c.0, d.0, e)

-- and so are all of a list
pub replies_read : (rs : List Reply) → AllFit rs → replies_of (length rs) (records_bytes rs) ≡ rs
unfolding replies_of records_bytes
replies_read [] k = refl
replies_read (r ∷ rs) k =
    rw (
      reply_read r (records_bytes rs) (k r (Memᴰ.head refl)),
      drop_at (record_bytes r) (records_bytes rs) 15 (length_record r),
      replies_read rs (λ q m. k q (Memᴰ.tail m)),
    )

-- they are as many as 15 goes into the bytes, with nothing left
bytes_whole : (rs : List Reply) → (length (records_bytes rs) ≡ 15 * (length (records_bytes rs) / 15)) × (length (records_bytes rs) / 15 ≡ length rs)
bytes_whole rs = let l : length (records_bytes rs) ≡ 15 * length rs = length_all rs in (omega arith, omega arith)

-- a list of records and the same replies as bytes have the same answer
pub same_count : (n : ℕ) (rs : List Reply) → AllFit rs → count_bytes n (records_bytes rs) ≡ count_of n rs
same_count n rs k = let (w, e) = bytes_whole rs in count_whole n (records_bytes rs) w ∙ rw (e, replies_read rs k)

-- ---- replies that were heard

-- what is heard fits its bytes, and its result is by the rules
pub record Fits (h : rules.Heard) : Type 0 where
  pub box : h.box < 256
  pub view : h.view < 2 ^ 32
  pub result : result_by_rule h.result ≡ true

-- so does all of a list
abbrev pub EachFits : List rules.Heard → Type 0
EachFits hs = (h : rules.Heard) → h ∈ hs → Fits h

-- "final or not" is 1 or 0
final_read : (b : Bool) → (eqb (bit b) 1 ≡ b) × (leb (bit b) 1 ≡ true)
final_read true = (refl, refl)
final_read false = (refl, refl)

-- the numbers of what is heard fit their fields
heard_fits : (h : rules.Heard) → Fits h → FieldsFit (reply_of h)
heard_fits h k =
    let small = result_small h.result k.result in
    record { boxnumber = k.box; view = k.view; result = small.0; retry = small.1; finality = bit_small h.is_final }
  where
    bit_small : (b : Bool) → bit b < 256
    bit_small true = omega arith
    bit_small false = omega arith

all_fit : (hs : List rules.Heard) → EachFits hs → AllFit (map reply_of hs)
all_fit [] k r m = absurd (Memᴰ.not-nil m)
all_fit (h ∷ hs) k r m = go (Memᴰ.cases_cons m) (all_fit hs (λ g j. k g (Memᴰ.tail j)) r)
  where
    go : (r ≡ reply_of h) ⊎ (r ∈ map reply_of hs) → (r ∈ map reply_of hs → FieldsFit r) → FieldsFit r
    go (inl e) below = subst FieldsFit (sym e) (heard_fits h (k h (Memᴰ.head refl)))
    go (inr i) below = below i

-- every result is by the rules
abbrev pub ResultsByRule : List rules.Heard → Type 0
ResultsByRule hs = (h : rules.Heard) → h ∈ hs → result_by_rule h.result ≡ true

-- and they say it
said_again : (h : rules.Heard) → result_by_rule h.result ≡ true → (heard (reply_of h) ≡ h) × (result_read (reply_of h) ≡ true)
unfolding result_read
said_again h k =
    let r = result_read_lem h.result k in
    let f = final_read h.is_final in
    (rw (r.0, f.0), both_true r.1 f.1)

-- a list in plain numbers is heard as that list
all_said : (hs : List rules.Heard) → ResultsByRule hs → all_heard (map reply_of hs) ≡ hs
all_said [] k = refl
all_said (h ∷ hs) k = rw ((said_again h (k h (Memᴰ.head refl))).0, all_said hs (λ g m. k g (Memᴰ.tail m)))

-- and no result in it is bad
none_bad : (hs : List rules.Heard) → ResultsByRule hs → every result_read (map reply_of hs) ≡ true
unfolding every
none_bad [] k = refl
none_bad (h ∷ hs) k = both_true (said_again h (k h (Memᴰ.head refl))).1 (none_bad hs (λ g m. k g (Memᴰ.tail m)))

-- so records of what is heard are counted as `rules` counts it
pub count_of_records : (n : ℕ) (hs : List rules.Heard) → ResultsByRule hs → count_of n (map reply_of hs) ≡ rules.counted n hs
unfolding count_of
count_of_records n hs k = rw (none_bad hs k, all_said hs k)

-- replies that were written as bytes are read back
pub bytes_read : (hs : List rules.Heard) → EachFits hs → all_heard (replies_of (length hs) (all_bytes hs)) ≡ hs
bytes_read hs k = rw (← length-map hs reply_of, replies_read (map reply_of hs) (all_fit hs k)) (all_said hs (λ h m. (k h m).result))

-- and counted as `rules` counts the list
pub count_of_bytes : (n : ℕ) (hs : List rules.Heard) → EachFits hs → count_bytes n (all_bytes hs) ≡ rules.counted n hs
count_of_bytes n hs k = same_count n (map reply_of hs) (all_fit hs k) ∙ count_of_records n hs (λ h m. (k h m).result)
