-- The word of a count: which answers have no result, and that a result fits its bits.
use mathlib.Core.Path.{◌≡◌, refl, sym, subst, ap, ◌∙◌}
use mathlib.Core.Bool.{true}
use mathlib.Core.Logic.{◌⊎◌, inl, inr}
use mathlib.Core.List.Memᴰ
use mathlib.Core.List.{[], ◌∷◌, List}
use Prim.Native.Nat.{ℕ, ◌%◌, ◌/◌, ◌^◌, ◌<◌}
use native.Mathlib.Nat.{zero-add}
use native.Mathlib.Omega.{arith}
use Rattle.std.specs.Prelude.{Ok, Err}
use borrow.Author.Tests.{ltb-true}
use Rattle.rules.specs.Stamps.{is_stamp}
use Rattle.rules.specs.Tables.{Result, Result.OK, Result.ABORT, Result.ABSTAIN, Result.RETRY, result_code, result_retry, result_by_rule}
use Rattle.rules.specs.Count as rules
use Rattle.rules.specs.Inner.CountAnswers.{counted_number}
use Rattle.rules.proofs.Logic.{both_right}
use Rattle.rules.proofs.Lists.{◌∈◌}
use Rattle.replies.specs.declared.held.Reply.{Reply}
use Rattle.count.specs.declared.answer.Counted.TheVariants.{Fast, Slow, Wait}
use Rattle.count.specs.Answers.{Answer, answer_as, answer_number}
use Rattle.count.specs.Inner.MeantAnswers.{meant}
use Rattle.count.specs.Inner.RecordBytes.{records_bytes}
use Rattle.count.proofs.HeardBytes.{AllFit, same_count}
use Rattle.count.proofs.CountWays.{Lent, Lent.records, Lent.laid, count_lent, count_numbers}
use Rattle.count.proofs.CountCall.{answer_by_rule, answer_meant}
use Rattle.sprondilu.specs.Calls.{result_word, count_answer}
use Rattle.sprondilu.specs.Inner.Words.{ResultFits}

-- neither fast nor slow: the word is the number
pub without_result : (a : Answer) → ((result retry : ℕ) → a ≡ Ok (Fast result retry) → ⊥) → ((result retry : ℕ) → a ≡ Ok (Slow result retry) → ⊥) → answer_number a ≡ count_answer a
without_result (Ok (Fast result retry)) f s = absurd (f result retry refl)
without_result (Ok (Slow result retry)) f s = absurd (s result retry refl)
without_result (Ok Wait) f s = refl
without_result (Err refusal) f s = refl

small : (r : Result) → result_by_rule r ≡ true → (result_code r < 8) × (result_retry r < 2 ^ 48)
unfolding result_by_rule is_stamp
small OK h = (omega arith, omega arith)
small ABORT h = (omega arith, omega arith)
small ABSTAIN h = (omega arith, omega arith)
small (RETRY s) h = (omega arith, ltb-true s (2 ^ 48) (both_right _ _ h))

result_fits : (c : rules.Counted) → ((r : Result) → (c ≡ rules.Counted.fast r) ⊎ (c ≡ rules.Counted.slow r) → result_by_rule r ≡ true) → (a : Answer) → a ≡ answer_as c → ResultFits a
result_fits c h a e = subst ResultFits (sym e) (go c h)
  where
    go : (c : rules.Counted) → ((r : Result) → (c ≡ rules.Counted.fast r) ⊎ (c ≡ rules.Counted.slow r) → result_by_rule r ≡ true) → ResultFits (answer_as c)
    go (rules.Counted.fast r) k = small r (k r (inl refl))
    go (rules.Counted.slow r) k = small r (k r (inr refl))
    go rules.Counted.wait k = tt
    go (rules.Counted.refused j) k = tt

-- whatever is lent
pub lent_fits : (n : ℕ) (lent : Lent) (a : Answer) → a ≡ answer_as (count_lent n lent) → ResultFits a
lent_fits n lent = result_fits (count_lent n lent) (answer_by_rule n lent)

-- ---- the word that either call answers

-- number, kind, result and retry stamp are taken out of a word again by their bits, and no other bit is set
pub word_apart : (kind result retry : ℕ) → kind < 4 → result < 8 → let w = result_word kind result retry in (w % 256 ≡ 0) × (w / 256 % 4 ≡ kind) × (w / 1024 % 8 ≡ result) × (w / 8192 % 8 ≡ 0) × (w / 65536 ≡ retry)
word_apart kind result retry k l = (omega arith, omega arith, omega arith, omega arith, omega arith)

-- the answer of the count to what is lent
abbrev pub count_word : ℕ → Lent → ℕ
count_word n lent = count_answer (answer_as (count_lent n lent))

-- what a word says, read by its bits alone
abbrev pub Says : ℕ → rules.Counted → Type 0
Says w (rules.Counted.fast r) = (w % 256 ≡ 0) × (w / 256 % 4 ≡ 1) × (w / 1024 % 8 ≡ result_code r) × (w / 8192 % 8 ≡ 0) × (w / 65536 ≡ result_retry r)
Says w (rules.Counted.slow r) = (w % 256 ≡ 0) × (w / 256 % 4 ≡ 2) × (w / 1024 % 8 ≡ result_code r) × (w / 8192 % 8 ≡ 0) × (w / 65536 ≡ result_retry r)
Says w rules.Counted.wait = w ≡ 0
Says w (rules.Counted.refused k) = w ≡ k

-- it says the count of `rules`
pub word_says : (n : ℕ) (lent : Lent) → Says (count_word n lent) (count_lent n lent)
word_says n lent = go (count_lent n lent) (answer_by_rule n lent) (answer_meant n lent)
  where
    go : (c : rules.Counted) → ((r : Result) → (c ≡ rules.Counted.fast r) ⊎ (c ≡ rules.Counted.slow r) → result_by_rule r ≡ true) → meant (answer_as c) ≡ c → Says (count_answer (answer_as c)) c
    go (rules.Counted.fast r) h m = let (k, l) = small r (h r (inl refl)) in rw (zero-add (result_word 1 (result_code r) (result_retry r))) (word_apart 1 (result_code r) (result_retry r) (omega arith) k)
    go (rules.Counted.slow r) h m = let (k, l) = small r (h r (inr refl)) in rw (zero-add (result_word 2 (result_code r) (result_retry r))) (word_apart 2 (result_code r) (result_retry r) (omega arith) k)
    go rules.Counted.wait h m = refl
    go (rules.Counted.refused k) h m = ap counted_number m

-- so its number is that of the count
pub word_number : (n : ℕ) (lent : Lent) → count_word n lent % 256 ≡ counted_number (count_lent n lent)
word_number n lent = go (count_lent n lent) (word_says n lent) (count_numbers n lent)
  where
    go : (c : rules.Counted) → Says (count_word n lent) c → counted_number c ∈ (0 ∷ 3 ∷ 6 ∷ []) → count_word n lent % 256 ≡ counted_number c
    go (rules.Counted.fast r) e m = e.0
    go (rules.Counted.slow r) e m = e.0
    go rules.Counted.wait e m = omega arith
    go (rules.Counted.refused k) e m = below m
      where
        below : k ∈ (0 ∷ 3 ∷ 6 ∷ []) → count_word n lent % 256 ≡ k
        below (Memᴰ.head f) = omega arith
        below (Memᴰ.tail (Memᴰ.head f)) = omega arith
        below (Memᴰ.tail (Memᴰ.tail (Memᴰ.head f))) = omega arith
        below (Memᴰ.tail (Memᴰ.tail (Memᴰ.tail x))) = elim x [ ]

-- two words that the promise allows for the same n and replies are equal
pub word_determined : (n : ℕ) (lent : Lent) {word other : ℕ} → word ≡ count_word n lent → other ≡ count_word n lent → word ≡ other
word_determined n lent a b = a ∙ sym b

-- ---- records, and the same replies as bytes

pub same_word : (n : ℕ) (rs : List Reply) → AllFit rs → count_word n (records rs) ≡ count_word n (laid (records_bytes rs))
same_word n rs k = ap (λ c. count_answer (answer_as c)) (sym (same_count n rs k))
