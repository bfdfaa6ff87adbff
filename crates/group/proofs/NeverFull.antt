-- 02, P2, in buffers and calls: whatever is done by the rules, a merge of images that boxes had is not refused as full.
use mathlib.Core.Path.{◌≡◌, refl, sym, ap, ap₂, subst, ◌∙◌}
use mathlib.Core.Bool.{Bool, true}
use mathlib.Core.Logic.{◌⊎◌}
use mathlib.Core.List.{List, [], ◌∷◌, map}
use Prim.Native.Nat.{ℕ, suc, ◌+◌, ◌*◌, ◌≤◌, ◌<◌}
use native.Mathlib.Omega.{arith}
use lib.Dec.{eqb}
use lib.ListN.{length, length-map}
use Rattle.rules.specs.Tests.{either, any, twice, all_of}
use Rattle.rules.specs.Groups.{is_group}
use Rattle.rules.specs.Tables.{Model, Table, valley}
use Rattle.rules.specs.Numbers.{Number.wrong_tables, number_code}
use Rattle.rules.specs.Circumstances.{keeps_room}
use Rattle.rules.specs.Merge.{merge_number}
use Rattle.rules.proofs.Room.{keeps_room_reserves}
use Rattle.table.specs.Images.{format_one}
use Rattle.table.specs.Parse.{table_at}
use Rattle.table.specs.Fresh.{fresh_number}
use Rattle.table.proofs.Images.{Sound, valley_sound}
use Rattle.merge.specs.Calls as merge
use Rattle.history.specs.Survival.{◌∈◌, fresh_group, at}
use Rattle.history.specs.Beyond.{PromisedBy, NeverFull}
use Rattle.history.proofs.Reserved.{never_full}
use Rattle.group.specs.Said.{laid_images}
use Rattle.group.specs.Acts.{GroupInBuffers, fresh_boxes, Act, after_acts}
use Rattle.group.specs.Rules.{OfBoxes, ByTheRules}
use Rattle.group.specs.NeverFull.{PromisedIn, MergesNeverFull}
use Rattle.group.proofs.Listed.{each_mapped}
use Rattle.group.proofs.Reading.{reading}
use Rattle.group.proofs.Good.{Good}
use Rattle.group.proofs.MergeLaid.{is_number}
use Rattle.group.proofs.Merging.{run_is, places}
use Rattle.group.proofs.Survival.{lawfully, still_good}

-- ---- what the headers say is what the tables say

module _ {A B : Type 0} (f : A → B) where
  any-map : (test : B → Bool) (xs : List A) → any test (map f xs) ≡ any (λ x. test (f x)) xs
  unfolding any
  any-map test [] = refl
  any-map test (x ∷ xs) = ap (either (test (f x))) (any-map test xs)

  twice-map : (number : B → ℕ) (xs : List A) → twice number (map f xs) ≡ twice (λ x. number (f x)) xs
  unfolding twice
  twice-map number [] = refl
  twice-map number (x ∷ xs) = ap₂ either (any-map (λ y. eqb (number y) (number (f x))) xs) (twice-map number xs)

promised_said : (n v : ℕ) (ss : List (List ℕ)) → PromisedIn n v ss → PromisedBy n v (map (table_at format_one) ss)
unfolding table_at
promised_said n v ss p =
    record {
      enough = length-map ss (table_at format_one) ∙ p.enough;
      different = twice-map (table_at format_one) (λ T. T.box) ss ∙ p.different;
      changing = each_mapped (λ T. (T.mode ≡ 1) × (T.promised ≡ v)) (table_at format_one) ss p.changing;
    }

-- ---- what holds of the group that the bytes say holds of the calls

module _ (M : Model) (sound : Sound format_one M) (room : 24 + 96 * M.row_limit ≤ M.least_buffer) (B : GroupInBuffers) (good : Good M B) (never : NeverFull M (reading M B)) (v : ℕ) (first : List ℕ) (more : List (List ℕ)) (out : List ℕ) (had : (s : List ℕ) → s ∈ (first ∷ more) → s ∈ B.had) (large : M.least_buffer ≤ length out) where
  abbrev run : List ℕ
  run = laid_images (first ∷ more)

  abbrev Ts : List Table
  Ts = map (table_at format_one) (first ∷ more)

  abbrev of : OfBoxes M B run
  of = (first ∷ more, refl, had)

  -- a call on one or more images is answered by the merge of their tables
  number_is : merge.call_number M run v out ≡ merge_number M v Ts
  number_is = is_number M run v out sound room Ts (run_is M sound room B good v run out of large) large

  -- which stand among those that boxes have had
  stand : (ks : List ℕ) × (all_of (at (reading M B).had) ks ≡ Ts)
  stand = places M sound room B good v run out of large

  done_or_wrong : (merge.call_number M run v out ≡ 0) ⊎ (merge.call_number M run v out ≡ number_code wrong_tables)
  done_or_wrong = let (ks, is) = stand in rw (number_is, ← is) (never.merges v ks)

  promised_done : PromisedIn B.n v (first ∷ more) → merge.call_number M run v out ≡ 0
  promised_done p = let (ks, is) = stand in number_is ∙ (rw is at (never.view_change v ks (rw is (promised_said B.n v (first ∷ more) p))).0)

-- ---- the corollary

-- for boxes of any row limit whose buffers have room for it
module _ (M : Model) (sound : Sound format_one M) (room : 24 + 96 * M.row_limit ≤ M.least_buffer) (n : ℕ) (group : is_group n ≡ true) (buffers : ℕ → List ℕ) (fresh : (b : ℕ) → b < n → fresh_number M (buffers b) n b ≡ 0) where
  pub all_never_full : (acts : List Act) → ByTheRules M (fresh_boxes M n buffers) acts → MergesNeverFull M (after_acts M (fresh_boxes M n buffers) acts)
  all_never_full acts law = record { merges = λ v first more out had large. done_or_wrong M sound room B good never v first more out had large; view_change = λ v tables out had large p. done v tables out had large p }
    where
      B : GroupInBuffers
      B = after_acts M (fresh_boxes M n buffers) acts

      good : Good M B
      good = still_good M sound room n group buffers fresh acts

      never : NeverFull M (reading M B)
      never = let (es, lawful, same) = lawfully M sound room n group buffers fresh acts law in subst (NeverFull M) (sym same) (never_full n group M keeps_room keeps_room_reserves es lawful)

      done : (v : ℕ) (tables : List (List ℕ)) (out : List ℕ) → ((s : List ℕ) → s ∈ tables → s ∈ B.had) → M.least_buffer ≤ length out → PromisedIn B.n v tables → merge.call_number M (laid_images tables) v out ≡ 0
      done v [] out had large p = let e = p.enough in absurd (omega arith)
      done v (first ∷ more) out had large p = promised_done M sound room B good never v first more out had large p

-- valley boxes: in a group of 3, 5 or 7, each has called `sprondilu_fresh` on its table buffer, which answered 0; then whatever is done by the rules
pub merge_never_full : (n : ℕ) → is_group n ≡ true → (buffers : ℕ → List ℕ) → ((b : ℕ) → b < n → fresh_number valley (buffers b) n b ≡ 0) →
    (acts : List Act) → ByTheRules valley (fresh_boxes valley n buffers) acts → MergesNeverFull valley (after_acts valley (fresh_boxes valley n buffers) acts)
merge_never_full n group buffers fresh = all_never_full valley valley_sound (omega arith) n group buffers fresh
