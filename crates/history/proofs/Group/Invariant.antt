-- The group: what a fair merge is, how a view began, and the invariant of all boxes, views and stamps.
use mathlib.Core.Path.{◌≡◌}
use mathlib.Core.Bool.{Bool, true, false}
use mathlib.Core.Logic.{◌⊎◌}
use mathlib.Core.List.{List}
use Prim.Native.Nat.{ℕ, ◌+◌, ◌≤◌, ◌<◌}
use Rattle.rules.specs.Groups.{quorum, fast_count, agreement_count}
use Rattle.rules.specs.Tables.{Result, Result.OK, Prepare.no_prepare, Prepare.tentative, Prepare.final, Verdict, Verdict.commit, Verdict.abort, Outcome.no_outcome, Outcome.done}
use Rattle.rules.proofs.Lists.{◌∈◌}
use Rattle.history.proofs.Group.Below.{AtLeast}
use Rattle.history.proofs.Group.Cells.{is_ok, is_accepted, Holds, Dead}
use Rattle.history.proofs.Group.Entries.{Cell, Cells, Fact, Fact.gave_result, Fact.declared_final, Fact.proposed, Fact.finalised, Fact.promised, Fact.started, Said, Said.said, Entry, Good, Settled}

-- what is fixed for a group: its size, the clash of two stamps' bodies, and the one table that each view begins with, settled, that of view 0 empty
pub record Setup : Type 1 where
  pub n : ℕ
  pub f : ℕ
  pub size : n ≡ f + f + 1
  pub clash : ℕ → ℕ → Type 0
  pub clash_sym : (t u : ℕ) → clash t u → clash u t
  pub clash_irr : (t : ℕ) → clash t t → ⊥
  pub begun : ℕ → Cells
  pub settled : (w t : ℕ) → Settled (begun w t)
  pub fresh_prepare : (t : ℕ) → (begun 0 t).prepare ≡ no_prepare
  pub fresh_outcome : (t : ℕ) → (begun 0 t).outcome ≡ no_outcome

abbrev pub Crowd : Setup → ℕ → (ℕ → Type 0) → Type 0
Crowd X k P = AtLeast X.n k P

abbrev pub Quorum : Setup → (ℕ → Type 0) → Type 0
Quorum X P = AtLeast X.n (quorum X.f) P

abbrev pub accepted_cell : Cell → Bool
accepted_cell c = is_accepted c.prepare c.outcome

-- a merge of the tables T of the boxes U into M
module _ (X : Setup) (U : ℕ → Type 0) (T : ℕ → Cells) (M : Cells) where
  abbrev pub NoFinalAt : ℕ → Type 0
  NoFinalAt t = (b : ℕ) (r : Result) → U b → (T b t).prepare ≡ final r → ⊥

  abbrev pub AgreedAt : ℕ → Result → Type 0
  AgreedAt t r = Crowd X (agreement_count X.f) (λ b. U b × ((T b t).prepare ≡ tentative r))

  -- accepted without a check
  abbrev pub FixedAt : ℕ → Type 0
  FixedAt t = ((b : ℕ) × U b × ((T b t).prepare ≡ final OK)) ⊎ ((M t).outcome ≡ done commit)

  pub record FairCells : Type 0 where
    -- outcomes are those held, done
    pub outcome_kept : (b t : ℕ) (o : Verdict) → U b → Holds o (T b t).outcome → (M t).outcome ≡ done o
    pub outcome_from : (t : ℕ) (o : Verdict) → (M t).outcome ≡ done o → (b : ℕ) × U b × Holds o (T b t).outcome
    -- a final result and an agreed refusal are kept
    pub final_kept : (b t : ℕ) (r : Result) → U b → (T b t).prepare ≡ final r → (M t).prepare ≡ final r
    pub refusal_kept : (t : ℕ) (r : Result) → NoFinalAt t → AgreedAt t r → is_ok r ≡ false → (M t).prepare ≡ final r
    -- an agreed OK is kept, or it has no outcome and clashes with an accepted row that was fixed or agreed
    pub ok_kept : (t : ℕ) → NoFinalAt t → AgreedAt t OK → ((M t).prepare ≡ final OK) ⊎ (((M t).outcome ≡ no_outcome) × ((u : ℕ) × X.clash t u × (accepted_cell (M u) ≡ true) × (FixedAt u ⊎ AgreedAt u OK)))
    -- no two rows of which one was checked are both accepted and clash
    pub apart : (t u : ℕ) → X.clash t u → accepted_cell (M t) ≡ true → accepted_cell (M u) ≡ true → FixedAt t × FixedAt u

-- how view v began, with table M: f+1 boxes that promised v, the greatest last normal view w among them, one box that has it, and a fair merge of the tables of that view
pub record Began (X : Setup) (G : List Fact) (v : ℕ) (M : Cells) : Type 0 where
  pub w : ℕ
  pub before : w < v
  pub tables : ℕ → Cells
  pub last : ℕ → ℕ
  pub gathered : Quorum X (λ b. (promised b v (last b) (tables b) ∈ G) × (last b ≤ w))
  pub top : (b : ℕ) × (b < X.n) × (gathered.test b ≡ true) × (last b ≡ w)
  pub base : (w ≡ 0) ⊎ (started w ∈ G)
  pub fair : FairCells X (λ b. (b < X.n) × (gathered.test b ≡ true) × (last b ≡ w)) tables M

-- the box has answered for the stamp in that view
abbrev pub Touched : Entry → Type 0
Touched e = ((a : Said) × (a ∈ e.answers)) ⊎ ((o : Verdict) × (o ∈ e.acceptances))

-- by box, view and stamp
abbrev pub Entries : Type 0
Entries = ℕ → ℕ → ℕ → Entry

abbrev pub DeadEntry : Entry → Type 0
DeadEntry e = Dead e.prepare e.outcome

-- what an OK given for t in view w rests on: the view began with it, or f+1 boxes checked it there
abbrev pub Rests : Setup → Entries → ℕ → ℕ → Type 0
Rests X entries t w = ((X.begun w t).prepare ≡ final OK) ⊎ Quorum X (λ b. (entries b w t).checked ≡ true)

-- what a declaration rests on: the fast count of answers, final or not, or f+1 that were final
abbrev pub FastAnswers : Setup → Entries → ℕ → ℕ → Result → Type 0
FastAnswers X entries t w r = Crowd X (fast_count X.f) (λ b. (x : Bool) × (said r x ∈ (entries b w t).answers))

abbrev pub FinalAnswers : Setup → Entries → ℕ → ℕ → Result → Type 0
FinalAnswers X entries t w r = Quorum X (λ b. said r true ∈ (entries b w t).answers)

abbrev pub Crowds : Setup → Entries → ℕ → ℕ → Result → Type 0
Crowds X entries t w r = FastAnswers X entries t w r ⊎ FinalAnswers X entries t w r

-- what a promise of view v handed over: the box's rows in its last normal view x, which change no more
pub record Promise (entries : Entries) (b v x : ℕ) (cells : Cells) : Type 0 where
  pub later : x < v
  pub same_prepare : (t : ℕ) → (cells t).prepare ≡ (entries b x t).prepare
  pub same_outcome : (t : ℕ) → (cells t).outcome ≡ (entries b x t).outcome

pub record Invariant (X : Setup) (G : List Fact) (entries : Entries) : Type 0 where
  pub good : (b w t : ℕ) → Good G w t (X.begun w t) (entries b w t)
  -- a row that the view began with, accepted, was aborted at a box that gave OK to one that clashes
  pub clear_of_begun : (b w t u : ℕ) → X.clash t u → accepted_cell (X.begun w t) ≡ true → (entries b w u).checked ≡ true → (entries b w t).outcome ≡ done abort
  -- of two rows that clash and that one box gave OK, one is dead there
  pub checked_apart : (b w t u : ℕ) → X.clash t u → (entries b w t).checked ≡ true → (entries b w u).checked ≡ true → DeadEntry (entries b w t) ⊎ DeadEntry (entries b w u)
  -- what was sent and declared
  pub result_ok : (t w : ℕ) → gave_result t w OK ∈ G → Rests X entries t w
  pub result_one : (t w : ℕ) (r q : Result) → gave_result t w r ∈ G → gave_result t w q ∈ G → r ≡ q
  pub declared : (t w : ℕ) (r : Result) → declared_final t w r ∈ G → (gave_result t w r ∈ G) × Crowds X entries t w r
  pub commit_after : (t : ℕ) → proposed t commit ∈ G → (u : ℕ) × (declared_final t u OK ∈ G)
  pub one_verdict : (t : ℕ) → proposed t commit ∈ G → proposed t abort ∈ G → ⊥
  pub finished : (t w : ℕ) (o : Verdict) → finalised t w o ∈ G → Quorum X (λ b. o ∈ (entries b w t).acceptances)
  -- a box that promised v answers no more in the views between its last normal one and v
  pub promise : (b v x : ℕ) (cells : Cells) → promised b v x cells ∈ G → Promise entries b v x cells
  pub crossing : (b v x : ℕ) (cells : Cells) (u t : ℕ) → promised b v x cells ∈ G → Touched (entries b u t) → (u ≤ x) ⊎ (v ≤ u)
  -- answers are of views that began, and how those began
  pub seen : (b w t : ℕ) → Touched (entries b w t) → (w ≡ 0) ⊎ (started w ∈ G)
  pub began : (v : ℕ) → started v ∈ G → Began X G v (X.begun v)
