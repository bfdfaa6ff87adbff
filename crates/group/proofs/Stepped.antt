-- Table buffers side by side in one lent buffer, stepped by the calls of `boxes`, follow a group's history step for step. No rule is asked of whoever steps them.
use mathlib.Core.Path.{◌≡◌, refl, sym, ap, subst, ◌∙◌}
use mathlib.Core.Bool.{true, false}
use mathlib.Core.Logic.{◌⊎◌, inl, inr}
use mathlib.Core.List.Memᴰ
use mathlib.Core.List.{List, [], ◌∷◌, ◌++◌, map}
use mathlib.Core.Option.{Option, none, some}
use Prim.Native.Nat.{ℕ, zero, suc, ◌+◌, ◌*◌, ◌≤◌, ◌<◌}
use native.Mathlib.Omega.{arith}
use lib.Dec.{eqb, ltb}
use lib.ListN.{length}
use borrow.Author.Tests.{eqb-false, ltb-true, ltb-false, lt-ltb, le-ltb}
use Rattle.wire.specs.Parts.{replaced}
use Rattle.wire.proofs.Parts.{length_part}
use Rattle.rules.specs.Tests.{both}
use Rattle.rules.specs.Groups.{is_group}
use Rattle.rules.specs.Tables.{Table, Model, fresh_table}
use Rattle.rules.specs.Circumstances.{too_small, bad_group}
use Rattle.rules.specs.Check.{check}
use Rattle.rules.specs.Merge as rules
use Rattle.rules.proofs.Logic.{cases, eqb_self, same?}
use Rattle.table.specs.Images.{format_one}
use Rattle.table.specs.Fresh.{fresh_number, fresh_buffer}
use Rattle.table.proofs.Images.{Sound}
use Rattle.table.proofs.FreshCall.{fresh_done, fresh_past, fresh_parses}
use Rattle.transact.specs.Replies.{reply_as, reply_bytes}
use Rattle.answer.specs.Calls.{call_number, call_table, call_reply}
use Rattle.answer.proofs.AnswerCall.{answer_length}
use Rattle.image_run.specs.Inner.WholeRuns.{laid_out}
use Rattle.merge.specs.Calls as merge
use Rattle.boxes.specs.Inner.OneBuffer.{fresh_first, buffer_of, with_buffer, tables_named, run_named, no_run_room, merge_boxes_number, merge_boxes_output, start_number, start_tables}
use Rattle.boxes.proofs.LentTables.{ends_before, fresh_each, start_small, start_bad, start_fresh, buffer_same, buffer_other, length_with}
use Rattle.history.specs.Survival.{◌∈◌, boxes_below, Group, fresh_group, Event.merges, put}
use Rattle.history_cases.specs.Today as today
use Rattle.history_cases.specs.Today.{step}
use Rattle.group.specs.Inner.StandIns.{said}
use Rattle.group.specs.Inner.HeldGroups.{Holds, HoldsLent, after_message, answer_to, Leaves}
use Rattle.group.proofs.OneStep.{then_is, sent_and_answered, merges_steps, merge_is_merge}

-- buffers that hold the same
holds_same : (M : Model) (G : Group) (s t : ℕ → List ℕ) → ((b : ℕ) → b < G.n → t b ≡ s b) → Holds M G s → Holds M G t
holds_same M G s t same holds =
    record {
      large = λ b l. rw (same b l) (holds.large b l);
      begins = λ b l. rw (same b l) (holds.begins b l);
      group = holds.group;
      had = holds.had;
    }

module _ (M : Model) (sound : Sound format_one M) (room : 24 + 96 * M.row_limit ≤ M.least_buffer) (G : Group) (tables : List ℕ) (held : HoldsLent M G tables) where
  place_inside : (b : ℕ) → b < G.n → M.least_buffer * b + M.least_buffer ≤ length tables
  place_inside b l = let k = ends_before M.least_buffer b G.n l in let j = held.fits in omega arith

  -- ---- a message to a box

  module _ (box : ℕ) (inside : box < G.n) (message reply : List ℕ) (long : 24 ≤ length reply) where
    abbrev pub buffer_then : List ℕ
    buffer_then = call_table M (buffer_of M tables box) message reply

    length_then : length buffer_then ≡ M.least_buffer
    length_then = answer_length M (buffer_of M tables box) message reply sound room ∙ length_part tables (M.least_buffer * box) M.least_buffer (place_inside box inside)

    buffers_then : (b : ℕ) → b < G.n → buffer_of M (with_buffer M tables box buffer_then) b ≡ put (buffer_of M tables) box buffer_then b
    buffers_then b l = go (same? box b)
      where
        go : (box ≡ b) ⊎ (eqb box b ≡ false) → buffer_of M (with_buffer M tables box buffer_then) b ≡ put (buffer_of M tables) box buffer_then b
        go (inl e) = rw (← e, eqb_self box) (buffer_same M tables box buffer_then (place_inside box inside) length_then)
        go (inr e) = rw e (buffer_other M tables box b buffer_then (eqb-false box b e) (place_inside box inside) length_then)

    same_n : (after_message M G box message).n ≡ G.n
    same_n = ap (λ K. K.n) (then_is M sound room G (buffer_of M tables) held.holds box inside message reply long)

    held_then : HoldsLent M (after_message M G box message) (with_buffer M tables box buffer_then)
    held_then =
        let answered = sent_and_answered M sound room G (buffer_of M tables) held.holds box inside message reply long in
        let l = length_with M tables box buffer_then (place_inside box inside) length_then in
        let f = held.fits in
        record {
          fits = rw (same_n, l) f;
          holds = holds_same M (after_message M G box message) (put (buffer_of M tables) box buffer_then) (buffer_of M (with_buffer M tables box buffer_then)) (λ b k. buffers_then b (rw same_n at k)) answered.3;
        }

    -- two steps of the history, the message is sent and it arrives, are what `boxes::arrive::arrive` does: its number and its reply are those of the answer that they add, and the lent buffer then holds the group after them
    pub arrive_follows :
        let a = answer_to M G box message in
        ((after_message M G box message).answers ≡ G.answers ++ (record { box = box; message = said M G.n message; reply = a.reply } ∷ [])) × (call_number M (buffer_of M tables box) message reply ≡ a.reply.number) × (call_reply M (buffer_of M tables box) message reply ≡ replaced reply 0 (reply_bytes (reply_as a.reply))) × HoldsLent M (after_message M G box message) (with_buffer M tables box buffer_then)
    arrive_follows =
        let (answers, number, replied, holds) = sent_and_answered M sound room G (buffer_of M tables) held.holds box inside message reply long in
        (answers, number, replied, held_then)

  -- ---- a merge of what boxes hold

  module _ (v : ℕ) (boxes : List ℕ) (inside : (b : ℕ) → b ∈ boxes → b < G.n) where
    named : (bs : List ℕ) → ((b : ℕ) → b ∈ bs → b < G.n) → tables_named M tables bs ≡ some (map G.table bs)
    unfolding tables_named
    named [] each = refl
    named (b ∷ bs) each = rw (held.holds.begins b (each b (Memᴰ.head refl)), named bs (λ c m. each c (Memᴰ.tail m))) refl

    run_is : run_named M tables boxes ≡ laid_out (map G.table boxes)
    unfolding run_named
    run_is = rw (named boxes inside) refl

    -- the group after the merge: the lent buffer holds it still
    merged_held : (o : Option Table) → HoldsLent M (today.merging_as M G v o) tables
    merged_held none = held
    merged_held (some T) = record { fits = held.fits; holds = record { large = held.holds.large; begins = held.holds.begins; group = held.holds.group; had = held.holds.had } }

    module _ (run out : List ℕ) (enough : M.least_buffer * length boxes ≤ length run) (large : M.least_buffer ≤ length out) where
      left_of : (o : Option Table) → Leaves M out (merge.call_number M (laid_out (map G.table boxes)) v out) (merge.call_output M (laid_out (map G.table boxes)) v out) o → Leaves M out (merge_boxes_number M tables boxes v run out) (merge_boxes_output M tables boxes v run out) o
      unfolding merge_boxes_number merge_boxes_output no_run_room
      left_of none made = rw (le-ltb (length run) (M.least_buffer * length boxes) enough, run_is) made
      left_of (some U) made = rw (le-ltb (length run) (M.least_buffer * length boxes) enough, run_is) made

      -- one step of the history, a merge of the tables that the boxes have now, is what `boxes::together::merge_boxes` does
      pub together_follows :
          let o = rules.merge M check v (map G.table boxes) in
          (ks : List ℕ) × (step M G (merges v ks) ≡ today.merging_as M G v o) × Leaves M out (merge_boxes_number M tables boxes v run out) (merge_boxes_output M tables boxes v run out) o × HoldsLent M (step M G (merges v ks)) tables
      together_follows =
          let (ks, is) = merges_steps M sound room G (buffer_of M tables) held.holds v boxes inside in
          let made = merge_is_merge M sound room G (buffer_of M tables) held.holds v boxes out inside large in
          (ks, is, left_of (rules.merge M check v (map G.table boxes)) made, subst (λ K. HoldsLent M K tables) (sym is) (merged_held (rules.merge M check v (map G.table boxes))))

-- ---- the fresh start

-- every box of a group is listed
listed : (n b : ℕ) → b < n → b ∈ boxes_below n
unfolding boxes_below
listed zero b l = absurd (omega arith)
listed (suc n) b l = go (same? b n) (λ k. listed n b k)
  where
    go : (b ≡ n) ⊎ (eqb b n ≡ false) → (b < n → b ∈ boxes_below n) → b ∈ (boxes_below n ++ (n ∷ []))
    go (inl e) below = Memᴰ.append_right (boxes_below n) (Memᴰ.head e)
    go (inr e) below = let k = eqb-false b n e in Memᴰ.append_left (n ∷ []) (below (omega arith))

module _ (M : Model) (sound : Sound format_one M) (least : 24 ≤ M.least_buffer) (tables : List ℕ) (n : ℕ) where
  started : is_group n ≡ true → M.least_buffer * n ≤ length tables → HoldsLent M (fresh_group n) (fresh_first M n n tables)
  unfolding fresh_group fresh_table too_small bad_group both
  started group fits = record { fits = rw each.1 fits; holds = record { large = λ b l. rw (each.0 b l) (large b l); begins = λ b l. rw (each.0 b l) (fresh_parses M (buffer_of M tables b) n b sound (done b l)); group = λ b l. refl; had = λ b l. Memᴰ.map (fresh_table n) (listed n b l) } }
    where
      each : ((b : ℕ) → b < n → buffer_of M (fresh_first M n n tables) b ≡ fresh_buffer M (buffer_of M tables b) n b) × (length (fresh_first M n n tables) ≡ length tables)
      each = fresh_each M least n n tables fits

      whole : (b : ℕ) → b < n → length (buffer_of M tables b) ≡ M.least_buffer
      whole b l = let k = ends_before M.least_buffer b n l in length_part tables (M.least_buffer * b) M.least_buffer (omega arith)

      done : (b : ℕ) → b < n → fresh_number M (buffer_of M tables b) n b ≡ 0
      done b l = let k = whole b l in (fresh_done M (buffer_of M tables b) n b (le-ltb (length (buffer_of M tables b)) M.least_buffer (omega arith)) (rw (group, lt-ltb b n l) refl)).0

      large : (b : ℕ) → b < n → M.least_buffer ≤ length (fresh_buffer M (buffer_of M tables b) n b)
      large b l = let k = whole b l in let j = (fresh_past M (buffer_of M tables b) n b least).1 in omega arith

  -- what `boxes::start::start_fresh` leaves, if it is done, is the fresh group
  pub start_follows : start_number M tables n ≡ 0 → (is_group n ≡ true) × HoldsLent M (fresh_group n) (start_tables M tables n)
  start_follows e = go (cases (ltb (length tables) (M.least_buffer * n))) (cases (is_group n))
    where
      go : (ltb (length tables) (M.least_buffer * n) ≡ true) ⊎ (ltb (length tables) (M.least_buffer * n) ≡ false) → (is_group n ≡ true) ⊎ (is_group n ≡ false) → (is_group n ≡ true) × HoldsLent M (fresh_group n) (start_tables M tables n)
      go (inl t) g = let d : ◌≡◌ {A = ℕ} 1 0 = sym (start_small M tables n (ltb-true _ _ t)) ∙ e in absurd (omega arith)
      go (inr t) (inr g) = let d : ◌≡◌ {A = ℕ} 3 0 = sym (start_bad M tables n (ltb-false _ _ t) g) ∙ e in absurd (omega arith)
      go (inr t) (inl g) = let fits = ltb-false _ _ t in (g, rw (start_fresh M tables n fits g) (started g fits))
