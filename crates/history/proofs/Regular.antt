-- Every table of a lawful history is by the rules, but for how many rows it has, and every start-view message that is sent is a good one.
use mathlib.Core.Path.{◌≡◌, refl, sym, ap, subst, ◌∙◌}
use mathlib.Core.Bool.{true, false}
use mathlib.Core.Logic.{◌⊎◌, inl, inr}
use mathlib.Core.Option.{Option, none, some}
use mathlib.Core.List.Memᴰ
use mathlib.Core.List.{List, [], ◌∷◌}
use Prim.Native.Nat.{ℕ, ◌<◌}
use lib.Dec.{eqb, ltb}
use borrow.Author.Tests.{lt-ltb, ltb-true}
use Rattle.rules.specs.Tests.{all_of}
use Rattle.rules.specs.Groups.{is_group}
use Rattle.rules.specs.Tables.{Table, Model, fresh_table}
use Rattle.rules.specs.Messages.{Message, Message.start_view, Check}
use Rattle.rules.specs.Circumstances.{Room, bad_group, message_by_rule}
use Rattle.rules.specs.Answers.{answer}
use Rattle.rules.specs.Check.{check}
use Rattle.rules.specs.Merge.{merge}
use Rattle.rules.proofs.Logic.{cases, both_true, not_false_of, same?, eqb_self}
use Rattle.rules.proofs.Lists.{◌∈◌}
use Rattle.rules.proofs.Check.{CheckByRule, check_by_rule}
use Rattle.rules.proofs.Tables.{Regular, table_facts}
use Rattle.rules.proofs.Answers.{fresh_by_rule, answer_kept}
use Rattle.rules.proofs.Used.{merge_is, first_table}
use Rattle.rules.proofs.Merge.{merge_by_rule}
use Rattle.history.specs.Survival.{Sent, Merged, Group, boxes_below, fresh_group, Event, Event.sends, Event.arrives, Event.declares, Event.merges, at, put, sending, answering, arriving, merging_as, step, after, WasSent, TheMerged, MaySend, May, Lawful}
use Rattle.history.proofs.Follow.Follows.{last_or, and_last}
use Rattle.history.proofs.Follow.Arrivals.{chosen_in}
use Rattle.history.proofs.Follow.Following.{below_from}

abbrev pub RegularOf : ℕ → Table → Type 0
RegularOf n T = Regular T × (T.n ≡ n)

pub record AllRegular (M : Model) (n : ℕ) (G : Group) : Type 0 where
  pub size : G.n ≡ n
  pub tables : (b : ℕ) → b < n → RegularOf n (G.table b)
  pub had : (T : Table) → T ∈ G.had → RegularOf n T
  pub merged : (m : Merged) → m ∈ G.merged → message_by_rule M n (start_view m.view m.table) ≡ true
  pub starts : (v : ℕ) (I : Table) → WasSent G (start_view v I) → message_by_rule M n (start_view v I) ≡ true

fresh_table_lem : (M : Model) (n : ℕ) → is_group n ≡ true → (b : ℕ) → b < n → RegularOf n (fresh_table n b)
unfolding bad_group fresh_table
fresh_table_lem M n group b l = ((table_facts M (fresh_table n b) (fresh_by_rule M n b (not_false_of _ (both_true group (lt-ltb b n l))))).0, refl)

pub fresh_regular : (M : Model) (n : ℕ) → is_group n ≡ true → AllRegular M n (fresh_group n)
unfolding fresh_group
fresh_regular M n group =
    record {
      size = refl;
      tables = λ b l. one b l;
      had = λ T m. let (b, i, e) = Memᴰ.of_map (fresh_table n) (boxes_below n) m in subst (RegularOf n) e (one b (below_from n b i));
      merged = λ m i. absurd (Memᴰ.not-nil i);
      starts = λ v I i. absurd (Memᴰ.not-nil i.1);
    }
  where
    one : (b : ℕ) → b < n → RegularOf n (fresh_table n b)
    one b l = fresh_table_lem M n group b l

module _ (M : Model) (room : Room) (proposals : Check) (checks : CheckByRule proposals) (n : ℕ) (G : Group) (R : AllRegular M n G) where
  answer_regular : (x : Sent) → x.box < n → AllRegular M n (answering G x (answer M room proposals (G.table x.box) x.message))
  answer_regular x inside = record { size = R.size; tables = λ b l. at_box b l (same? x.box b); had = and_last (RegularOf n) G.had _ R.had now; merged = R.merged; starts = R.starts }
    where
      was : RegularOf n (G.table x.box)
      was = R.tables x.box inside

      now : RegularOf n (answer M room proposals (G.table x.box) x.message).table
      now = let (r, b, e) = answer_kept M room proposals checks (G.table x.box) was.0 x.message in (r, e ∙ was.1)

      at_box : (b : ℕ) → b < n → (x.box ≡ b) ⊎ (eqb x.box b ≡ false) → RegularOf n (put G.table x.box (answer M room proposals (G.table x.box) x.message).table b)
      at_box b l (inl e) = rw (← e, eqb_self x.box) now
      at_box b l (inr e) = rw e (R.tables b l)

  arrival_regular : (x : Option Sent) → AllRegular M n (arriving M room proposals G x)
  arrival_regular none = R
  arrival_regular (some x) = go (cases (ltb x.box G.n))
    where
      go : (ltb x.box G.n ≡ true) ⊎ (ltb x.box G.n ≡ false) → AllRegular M n (arriving M room proposals G (some x))
      go (inl e) = rw e (answer_regular x (rw R.size at (ltb-true x.box G.n e)))
      go (inr e) = rw e R

  -- a merge by the rules is one that message 6 takes
  pub merge_starts : (v : ℕ) (Ts : List Table) → ((T : Table) → T ∈ Ts → T ∈ G.had) → (U : Table) → merge M check v Ts ≡ some U → message_by_rule M n (start_view v U) ≡ true
  unfolding message_by_rule
  merge_starts v Ts had U h =
      let (T, m, g, p) = first_table M v Ts (merge_is M check v Ts U h).0 in
      let (r, e) = R.had T (had T m) in
      let (rule, same, starts) = merge_by_rule M check check_by_rule v Ts (λ Y i. (R.had Y (had Y i)).0) U h in
      both_true (rw p at r.promised) (both_true rule (rw (g ∙ e) at starts))

  merge_regular : (v : ℕ) (places : List ℕ) → AllRegular M n (merging_as M room proposals G v (merge M check v (all_of (at G.had) places)))
  merge_regular v places = go (merge M check v Ts) refl
    where
      Ts : List Table
      Ts = all_of (at G.had) places

      had : (T : Table) → T ∈ Ts → T ∈ G.had
      had = chosen_in G.had places

      go : (o : Option Table) → merge M check v Ts ≡ o → AllRegular M n (merging_as M room proposals G v o)
      go none e = R
      go (some U) e =
          record {
            size = R.size;
            tables = R.tables;
            had = R.had;
            merged = and_last (λ (m : Merged). message_by_rule M n (start_view m.view m.table) ≡ true) G.merged _ R.merged (merge_starts v Ts had U e);
            starts = R.starts;
          }

  send_regular : (b : ℕ) (m : Message) → MaySend G b m → AllRegular M n (sending G (record { box = b; message = m }))
  send_regular b m may = record { size = R.size; tables = R.tables; had = R.had; merged = R.merged; starts = λ v I i. go v I i.0 (last_or G.sent i.1) }
    where
      of_merge : (v : ℕ) (I : Table) → TheMerged G v I → message_by_rule M n (start_view v I) ≡ true
      of_merge v I ((z, i, e, k), only) = subst (λ (T : Table). message_by_rule M n (start_view v T) ≡ true) k (subst (λ (w : ℕ). message_by_rule M n (start_view w z.table) ≡ true) e (R.merged z i))

      go : (v : ℕ) (I : Table) (c : ℕ) → (record { box = c; message = start_view v I } ∈ G.sent) ⊎ ◌≡◌ {A = Sent} (record { box = c; message = start_view v I }) (record { box = b; message = m }) → message_by_rule M n (start_view v I) ≡ true
      go v I c (inl i) = R.starts v I (c, i)
      go v I c (inr e) = of_merge v I (subst (MaySend G b) (sym (ap (λ (y : Sent). y.message) e)) may)

  pub event_regular : (e : Event) → May G e → AllRegular M n (step M room proposals G e)
  event_regular (sends b m) may = send_regular b m may
  event_regular (arrives k) may = arrival_regular (at G.sent k)
  event_regular (declares t v r) may = record { size = R.size; tables = R.tables; had = R.had; merged = R.merged; starts = R.starts }
  event_regular (merges v places) may = merge_regular v places

pub all_regular : (M : Model) (room : Room) (proposals : Check) → CheckByRule proposals → (n : ℕ) (es : List Event) (G : Group) → Lawful M room proposals G es → AllRegular M n G → AllRegular M n (after M room proposals G es)
all_regular M room proposals checks n [] G law R = R
all_regular M room proposals checks n (e ∷ es) G (may, rest) R = all_regular M room proposals checks n es (step M room proposals G e) rest (event_regular M room proposals checks n G R e may)
