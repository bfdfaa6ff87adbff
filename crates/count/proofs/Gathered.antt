-- What is kept of replies that are gone through from the first on, and which replies the records of some bytes are.
use mathlib.Core.Path.{◌≡◌, refl, ap, ◌∙◌}
use mathlib.Core.List.{List, [], ◌∷◌, ◌++◌}
use Prim.Native.Nat.{ℕ, zero, suc, ◌+◌, ◌/◌, ◌≤◌}
use native.Mathlib.Omega.{arith}
use lib.ListN.{length, drop, length-append}
use lib.Seq.{take_at, drop_at}
use denote.Ref.{Bor}
use denote.Param.Members.{Mut}
use Rattle.std.specs.Prelude.{Option}
use Rattle.std.specs.Fn.{Called}
use Rattle.std.specs.List.{FoldsTo}
use Rattle.std.specs.Iterator.{AlwaysYields, Drains}
use Rattle.std.proofs.lemmas.Fn.{fold_over}
use Rattle.std.specs.declared.slice.ChunksExact.{ChunksExact}
use Rattle.std.specs.Slice.Iter.{chunks_exact_rest, chunks_exact_size, chunks_exact_steps}
use Rattle.wire.specs.Parts.{part}
use Rattle.wire.proofs.Numbers.{number_at-part}
use Rattle.replies.specs.declared.held.Reply.{Reply}
use Rattle.replies.specs.declared.tally.Tally.{Tally}
use Rattle.replies.specs.Inner.Tallies.{no_tally, with_reply, with_replies}
use Rattle.count.specs.Calls.{reply_at, replies_of}

-- one reply more
with_one_more : (t : Tally) (rs : List Reply) (r : Reply) → with_replies t (rs ++ (r ∷ [])) ≡ with_reply (with_replies t rs) r
unfolding with_replies
with_one_more t [] r = refl
with_one_more t (q ∷ rs) r = with_one_more (with_reply t q) rs r

-- a fold that takes each reply into what is kept, whatever it goes through, has taken in all
pub all_taken : {S A F : Type 0} (steps : S → Option A → S → Type 0) (v : A → Reply) (g : Mut F (Tally × (A × Unit {0})) Tally) (f : F)
    → ((t : Tally) (x : A) (u : Tally) (f' : F) → Called g f (t, (x, tt)) u f' → (u ≡ with_reply t (v x)) × (f' ≡ f))
    → (s : S) (rs : List Reply) (t u : Tally) → AlwaysYields steps v s rs → t ≡ no_tally
    → (xs : List A) × (f' : F) × Drains steps s xs × FoldsTo {P = F × Tally} (λ p x q. Called g p.0 (p.1, (x, tt)) q.1 q.0) (f, t) xs (f', u) → u ≡ with_replies no_tally rs
unfolding with_replies
all_taken steps v g f step s rs t u =
    fold_over steps v g (λ qs k. k ≡ with_replies no_tally qs) f (λ qs k x l f' j called. let (e, same) = step k x l f' called in (rw with_one_more (rw (← j) e), same)) s rs t u

-- a record alone is read as it is before others
alone : (x rest : List ℕ) → length x ≡ 15 → reply_at x 0 ≡ reply_at (x ++ rest) 0
unfolding reply_at
alone x rest e =
    let p : part (x ++ rest) 0 15 ≡ x = take_at x rest 15 e in
    let l : 0 + 15 ≤ length (x ++ rest) = omega (arith, length-append x rest) in
    let whole : reply_at (part (x ++ rest) 0 15) 0 ≡ reply_at (x ++ rest) 0 = rw (number_at-part (x ++ rest) 0 15 0 1 l (omega arith), number_at-part (x ++ rest) 0 15 1 4 l (omega arith), number_at-part (x ++ rest) 0 15 5 1 l (omega arith), number_at-part (x ++ rest) 0 15 6 8 l (omega arith), number_at-part (x ++ rest) 0 15 14 1 l (omega arith)) refl in
    rw p at whole

-- records of 15 bytes are the replies of the bytes
pub records_give : (k : ℕ) (s : ChunksExact ℕ) → chunks_exact_size s ≡ 15 → length (chunks_exact_rest s) / 15 ≡ k → AlwaysYields chunks_exact_steps (λ (y : Bor (List ℕ)). reply_at y.now 0) s (replies_of k (chunks_exact_rest s))
unfolding replies_of
records_give zero s e n = λ x j h. let l = length-append x.now (chunks_exact_rest j) in let m = ap length h.1.0 in let w = h.1.1 in omega arith
records_give (suc k) s e n = (
  λ j h. let l = h.1.0 in omega arith,
  λ x j h.
      let w : length x.now ≡ 15 = h.1.1 ∙ e in let m = ap length h.1.0 in let l = length-append x.now (chunks_exact_rest j) in
      let d : drop 15 (chunks_exact_rest s) ≡ chunks_exact_rest j = ap (drop 15) h.1.0 ∙ drop_at x.now (chunks_exact_rest j) 15 w in
      (rw h.1.0 (alone x.now (chunks_exact_rest j) w), rw d (records_give k j (h.0 ∙ e) (omega arith))),
)
