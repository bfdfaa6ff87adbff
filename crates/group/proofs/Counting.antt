-- The count of reply buffers, as records or as bytes, is the count of `rules` of replies that boxes have given.
use mathlib.Core.Path.{◌≡◌, refl, sym, ap, subst, ◌∙◌}
use mathlib.Core.Bool.{Bool, true, false, cond}
use mathlib.Core.Logic.{◌⊎◌, inl, inr}
use mathlib.Core.List.Memᴰ
use mathlib.Core.List.{List, map}
use Prim.Native.Nat.{ℕ, ◌-◌, ◌≤◌, ◌<◌}
use native.Mathlib.Omega.{arith}
use lib.Dec.{eqb, ltb}
use lib.ListN.{length}
use borrow.Author.Tests.{ltb-true}
use Rattle.wire.specs.Numbers.{number_at}
use Rattle.wire.specs.Inner.ByteLists.{AllBytes}
use Rattle.wire.proofs.Numbers.{number_at-below}
use Rattle.rules.specs.Tests.{bit}
use Rattle.rules.specs.Tables.{Prepare.tentative, Prepare.final, prepare_code, prepare_retry, Model}
use Rattle.rules.specs.Count as rules
use Rattle.rules.specs.Inner.CountAnswers.{counted_number}
use Rattle.rules.proofs.Logic.{cases}
use Rattle.rows.specs.Fields.{result_numbered}
use Rattle.message.proofs.KeepingRules.{ResultCoded}
use Rattle.replies.specs.declared.held.Reply.{Reply}
use Rattle.replies.specs.PlainReplies.{result_read, heard, all_heard}
use Rattle.replies.proofs.BadReplies.{coded}
use Rattle.count.specs.Inner.RecordBytes.{records_bytes}
use Rattle.count.specs.Calls.{count_of, count_bytes}
use Rattle.count.proofs.HeardBytes.{FieldsFit, AllFit, same_count}
use Rattle.count.proofs.CountWays.{Lent.records, BadLent, BadLent.bad_result}
use Rattle.count.proofs.CountCall.{answered_by_rules}
use Rattle.history.specs.Survival as history
use Rattle.history.specs.Survival.{◌∈◌}
use Rattle.group.specs.Said.{reply_in, record_of}
use Rattle.group.specs.Acts.{GroupInBuffers}
use Rattle.group.specs.Rules.{ReplyFor, Counting}
use Rattle.group.proofs.Reading.{reading}
use Rattle.group.proofs.Good.{Good}
use Rattle.group.proofs.Says.{gave_said}

-- the state byte and the retry stamp are those of the prepare that is heard: above 4 it is final
state_heard : (c q : ℕ) (b : Bool) → ltb 4 c ≡ b → ResultCoded (cond b (c - 4) c) q →
    let r = result_numbered (cond b (c - 4) c) q in
    let p = cond (eqb (bit b) 1) (final r) (tentative r) in
    (c ≡ prepare_code p) × (q ≡ prepare_retry p)
state_heard c q true e k = let l = ltb-true 4 c e in (omega (arith, k.same_code), sym k.same_retry)
state_heard c q false e k = (sym k.same_code, sym k.same_retry)

module _ (M : Model) (B : GroupInBuffers) (good : Good M B) (s v : ℕ) where
  -- what the record of a reply buffer says is a reply that its box has given, if its result is read
  replied : (p : List ℕ) → ReplyFor M B s v p → result_read (record_of p) ≡ true → history.Replied (reading M B) s v (heard (record_of p))
  unfolding record_of
  replied p (b, bytes, m, given, is, asks, in_view) read =
      let (state, retry) = state_heard (reply_in p).state (reply_in p).value _ refl (coded (record_of p) read) in
      record {
        message = m;
        reply = reply_in p;
        asked = asks;
        gave = subst (λ c. history.Gave (reading M B) c m (reply_in p)) (sym (good.replies _ given.0 given.1)) (gave_said M B given is);
        in_view = (in_view, in_view);
        state = state;
        retry = retry;
      }

  -- an answer that is no refusal: the count of `rules` of what the replies say is that answer
  pub counted_said : (replies : List (List ℕ)) → Counting M B s v replies → (c : rules.Counted) → count_of B.n (map record_of replies) ≡ c → counted_number c ≡ 0 →
      history.Replies (reading M B) s v (all_heard (map record_of replies)) × (rules.counted B.n (all_heard (map record_of replies)) ≡ c)
  counted_said replies given c e z = let (fine, is) = answered_by_rules B.n (records (map record_of replies)) c e z in (all_replied fine, is)
    where
      read : (BadLent B.n (records (map record_of replies)) → ⊥) → (r : Reply) → r ∈ map record_of replies → (result_read r ≡ true) ⊎ (result_read r ≡ false) → result_read r ≡ true
      read fine r i (inl t) = t
      read fine r i (inr t) = absurd (fine (bad_result r i t))

      all_replied : (BadLent B.n (records (map record_of replies)) → ⊥) → history.Replies (reading M B) s v (all_heard (map record_of replies))
      all_replied fine h m =
          let (r, i, e) = Memᴰ.of_map heard (map record_of replies) m in
          let (p, j, f) = Memᴰ.of_map record_of replies i in
          subst (history.Replied (reading M B) s v) (ap heard f ∙ e) (replied p (given p j) (rw f (read fine r i (cases (result_read r)))))

-- ---- the records laid as bytes, 15 each

-- the numbers of a record fit its fields
record_fits : (p : List ℕ) → AllBytes p → 24 ≤ length p → FieldsFit (record_of p)
unfolding record_of reply_in
record_fits p a l =
    let (result, finality) = small (ltb 4 (number_at p 3 1)) (number_at p 3 1) (number_at-below p 3 1 a (omega arith)) in
    record {
      boxnumber = number_at-below p 2 1 a (omega arith);
      view = number_at-below p 4 4 a (omega arith);
      result = result;
      retry = number_at-below p 16 8 a (omega arith);
      finality = finality;
    }
  where
    small : (b : Bool) (c : ℕ) → c < 256 → (cond b (c - 4) c < 256) × (bit b < 256)
    small true c l = omega arith
    small false c l = omega arith

-- have the same count
pub laid_count : (n : ℕ) (replies : List (List ℕ)) → ((p : List ℕ) → p ∈ replies → AllBytes p × (24 ≤ length p)) → count_bytes n (records_bytes (map record_of replies)) ≡ count_of n (map record_of replies)
laid_count n replies h = same_count n (map record_of replies) fit
  where
    fit : AllFit (map record_of replies)
    fit r m = let (p, i, e) = Memᴰ.of_map record_of replies m in subst FieldsFit e (record_fits p (h p i).0 (h p i).1)
