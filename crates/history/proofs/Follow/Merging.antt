-- A merge of tables that boxes have had is followed by the abstract group, if it is fair; the merge of the rules is.
use mathlib.Core.Path.{◌≡◌, refl, sym, ap, subst}
use mathlib.Core.Bool.{true, false}
use mathlib.Core.Option.{Option, none, some}
use mathlib.Core.List.{List}
use Prim.Native.Nat.{ℕ}
use Rattle.rules.specs.Tests.{all_of}
use Rattle.rules.specs.Groups.{f_of, agreement_count}
use Rattle.rules.specs.Stamps.{Body}
use Rattle.rules.specs.Tables.{Verdict, Row, Table}
use Rattle.rules.specs.Messages.{Message.propose_outcome, held, outcome_of}
use Rattle.rules.specs.Check.{check}
use Rattle.rules.specs.Merge.{holds_verdict, used, group_of, are_wrong, merge}
use Rattle.rules.proofs.Lists.{◌∈◌}
use Rattle.rules.proofs.Used.{merge_is, merge_right}
use Rattle.history.specs.Survival.{Sent, Group, at, merging, merging_as, Carries}
use Rattle.history.proofs.Group.Entries.{Fact.proposed, Fact.body_sent}
use Rattle.history.proofs.Group.Acts.{State, Sound}
use Rattle.history.proofs.Group.Kept.{any_merge}
use Rattle.history.proofs.Fairness.Fair.{Fair}
use Rattle.history.proofs.Fairness.FairMerge.{merge_fair}
use Rattle.history.proofs.Follow.World.{World, setup, cells_in}
use Rattle.history.proofs.Follow.Boxes.{Owned}
use Rattle.history.proofs.Follow.Gathered.{HadIs, merge_began, merge_owned}
use Rattle.history.proofs.Group.Invariant.{Began}
use Rattle.history.proofs.Follow.Follows.{Follows, known_merged}
use Rattle.history.proofs.Follow.Arrivals.{chosen_in, Followed}

module _ (W : World) (G : Group) (s : State) (k : Sound (setup W) s) (F : Follows W G s) where
  -- any fair merge of tables that boxes have had
  module _ (v : ℕ) (Ts : List Table) (T : Table) (had : (U : Table) → U ∈ Ts → U ∈ G.had) (right : are_wrong v Ts ≡ false) (fair : Fair (agreement_count (f_of (group_of Ts))) (used Ts) T.rows) where
    tables : (U : Table) → U ∈ Ts → HadIs W s.facts U
    tables U m = F.had U (had U m)

    began : Began (setup W) s.facts v (cells_in T.rows)
    began = merge_began W s.facts v Ts T.rows tables right fair

    owned : Owned W s.facts T.rows
    owned = merge_owned W s.facts v Ts T.rows tables fair

    row_sent : (r : Row) → r ∈ T.rows → (x : Sent) × (x ∈ G.sent) × Carries r.stamp r.body x.message
    row_sent r m =
        let (e, i) = owned r m in
        let (q, (b, j), c) = F.facts (body_sent r.stamp) i in
        (record { box = b; message = q }, j, subst (λ (y : Body). Carries r.stamp y q) (sym e) c)

    outcome_sent : (r : Row) (o : Verdict) → r ∈ T.rows → holds_verdict o r.outcome ≡ true → (x : Sent) × (x ∈ G.sent) × (x.message ≡ propose_outcome r.stamp o r.body)
    outcome_sent r o m h =
        let holds : holds_verdict o (outcome_of (held T.rows r.stamp)) ≡ true = rw (fair.once r m) h in
        let (U, i, held-there) = fair.outcome_from r.stamp o holds in
        let finished = fair.outcome_kept U r.stamp o i held-there in
        let (b, j) = F.facts (proposed r.stamp o) ((any_merge (setup W) s.facts s.entry k.invariant v (cells_in T.rows) began).proposed r.stamp o finished).0 in
        (record { box = b; message = propose_outcome r.stamp o (W.bodies r.stamp) }, j, ap (propose_outcome r.stamp o) (sym (owned r m).0))

    pub fair_followed : Followed W (merging G (record { view = v; table = T; sent_by_then = G.sent }))
    fair_followed = (s, k, known_merged W G s F _ (record { grounded = (began, owned); rows_sent = row_sent; outcomes_sent = outcome_sent }))

  pub merge_followed : (v : ℕ) (places : List ℕ) → Followed W (merging_as W.model W.room W.proposals G v (merge W.model check v (all_of (at G.had) places)))
  merge_followed v places = go (merge W.model check v Ts) refl
    where
      Ts : List Table
      Ts = all_of (at G.had) places

      had : (U : Table) → U ∈ Ts → U ∈ G.had
      had = chosen_in G.had places

      go : (o : Option Table) → merge W.model check v Ts ≡ o → Followed W (merging_as W.model W.room W.proposals G v o)
      go none e = (s, k, F)
      go (some T) e = fair_followed v Ts T had (merge_right W.model v Ts (merge_is W.model check v Ts T e).0) (merge_fair W.model v Ts T e)
