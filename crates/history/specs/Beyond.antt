-- Beyond demand 3: no merge is refused with 5 or 6, every start-view message that was sent is a good one, and with 02's rule of room no merge is refused as full.
use Rattle.std.specs.Prelude.{◌≡◌, true, false, ◌⊎◌, List, ℕ, length}
use Rattle.std.proofs.Math.Option.{some}
use Rattle.rules.specs.Tests.{twice, all_of}
use Rattle.rules.specs.Groups.{f_of, quorum}
use Rattle.rules.specs.Tables.{Table, Model, changing_mode}
use Rattle.rules.specs.Numbers.{Number.full, Number.wrong_tables, number_code}
use Rattle.rules.specs.Messages.{Message.start_view}
use Rattle.rules.specs.Circumstances.{message_by_rule}
use Rattle.rules.specs.Check.{check}
use Rattle.rules.specs.Merge.{merge_number, merge}
use Rattle.history.specs.Survival.{◌∈◌, Group, at, WasSent}

-- done, or refused for want of room, or since these are not the tables of a merge: never with 5 or 6
abbrev pub DoneOrNoMerge : ℕ → Type 0
DoneOrNoMerge k = (k ≡ 0) ⊎ ((k ≡ number_code full) ⊎ (k ≡ number_code wrong_tables))

pub record GoesThrough (M : Model) (G : Group) : Type 0 where
  -- whichever tables that boxes have had are merged, and for whichever view
  pub merges : (v : ℕ) (places : List ℕ) → DoneOrNoMerge (merge_number M v (all_of (at G.had) places))
  -- a start-view message that was sent breaks no rule
  pub starts : (v : ℕ) (I : Table) → WasSent G (start_view v I) → message_by_rule M G.n (start_view v I) ≡ true

-- ---- 02, P2: "under demand 3's premises a merge is then never refused as full"

-- "From f+1 changing tables that promised v": of a group of n, and of different boxes
pub record PromisedBy (n v : ℕ) (Ts : List Table) : Type 0 where
  pub enough : length Ts ≡ quorum (f_of n)
  pub different : twice (λ T. T.box) Ts ≡ false
  pub changing : (T : Table) → T ∈ Ts → (T.mode ≡ changing_mode) × (T.promised ≡ v)

pub record NeverFull (M : Model) (G : Group) : Type 0 where
  -- whichever tables that boxes have had are merged, and for whichever view: it is done, or these are not the tables of a merge
  pub merges : (v : ℕ) (places : List ℕ) → let k = merge_number M v (all_of (at G.had) places) in (k ≡ 0) ⊎ (k ≡ number_code wrong_tables)
  -- "A group with no room left still reads, finalises and changes view.": of f+1 tables that promised a view the merge is done, and message 6 takes what is merged
  pub view_change : (v : ℕ) (places : List ℕ) → let Ts = all_of (at G.had) places in
      PromisedBy G.n v Ts → (merge_number M v Ts ≡ 0) × ((I : Table) → merge M check v Ts ≡ some I → message_by_rule M G.n (start_view v I) ≡ true)
