-- One more fact: what it has to meet, and that the invariant then holds with it.
use mathlib.Core.Path.{◌≡◌, refl, sym, subst}
use mathlib.Core.Logic.{◌⊎◌, inl, inr}
use mathlib.Core.List.Memᴰ
use mathlib.Core.List.{List, ◌∷◌}
use Prim.Native.Nat.{ℕ, ◌≤◌}
use Rattle.rules.specs.Tables.{Result, Result.OK, Verdict, Verdict.commit, Verdict.abort}
use Rattle.rules.proofs.Lists.{◌∈◌}
use Rattle.history.proofs.Group.Below.{at_least_map}
use Rattle.history.proofs.Group.Cells.{commit_abort}
use Rattle.history.proofs.Group.Entries.{Cells, Fact, Fact.gave_result, Fact.declared_final, Fact.proposed, Fact.finalised, Fact.promised, Fact.body_sent, Fact.started}
use Rattle.history.proofs.Group.Invariant.{Setup, Quorum, Began, Touched, Entries, Rests, Crowds, Promise, Invariant}
use Rattle.history.proofs.Group.Growth.{still, good_more}

-- what a new fact has to meet, kind by kind
abbrev pub Duty : Setup → List Fact → Entries → Fact → Type 0
Duty X G entries (gave_result t w r) = (r ≡ OK → Rests X entries t w) × ((q : Result) → gave_result t w q ∈ G → r ≡ q)
Duty X G entries (declared_final t w r) = (gave_result t w r ∈ G) × Crowds X entries t w r
Duty X G entries (proposed t o) = (o ≡ commit → (u : ℕ) × (declared_final t u OK ∈ G)) × ((u : Verdict) → proposed t u ∈ G → o ≡ u)
Duty X G entries (finalised t w o) = Quorum X (λ b. o ∈ (entries b w t).acceptances)
Duty X G entries (promised b v x cells) = Promise entries b v x cells × ((u t : ℕ) → Touched (entries b u t) → (u ≤ x) ⊎ (v ≤ u))
Duty X G entries (body_sent t) = Unit {0}
Duty X G entries (started v) = Began X G v (X.begun v)

-- a certificate of how a view began stays one with more facts
pub began_wider : {X : Setup} {facts more : List Fact} {v : ℕ} {M : Cells} → ((φ : Fact) → φ ∈ facts → φ ∈ more) → Began X facts v M → Began X more v M
began_wider {X} {facts} {more} up m =
    record {
      w = m.w;
      before = m.before;
      tables = m.tables;
      last = m.last;
      gathered = at_least_map (λ b h. (up _ h.0, h.1)) m.gathered;
      top = m.top;
      base = based m.base;
      fair = m.fair;
    }
  where
    based : {A : Type 0} {φ : Fact} → A ⊎ (φ ∈ facts) → A ⊎ (φ ∈ more)
    based (inl a) = inl a
    based (inr k) = inr (up _ k)

module _ (X : Setup) (G : List Fact) (entries : Entries) (φ : Fact) (i : Invariant X G entries) (n : Duty X G entries φ) where
  -- a fact of the longer list is the new one, with its duty, or an old one
  pick : {ψ : Fact} {A : Type 0} → (φ ≡ ψ → Duty X G entries ψ → A) → (ψ ∈ G → A) → ψ ∈ (φ ∷ G) → A
  pick {ψ} {A} f g m = go (Memᴰ.cases_cons m)
    where
      go : (ψ ≡ φ) ⊎ (ψ ∈ G) → A
      go (inl e) = f (sym e) (subst (λ (x : Fact). Duty X G entries x) (sym e) n)
      go (inr h) = g h

  one : (t w : ℕ) (r q : Result) → gave_result t w r ∈ (φ ∷ G) → gave_result t w q ∈ (φ ∷ G) → r ≡ q
  one t w r q = pick (λ e d. pick (λ e' d'. (cc)) (λ h'. d.1 q h')) (λ h. pick (λ e' d'. sym (d'.1 r h)) (λ h'. i.result_one t w r q h h'))

  verdict : (t : ℕ) → proposed t commit ∈ (φ ∷ G) → proposed t abort ∈ (φ ∷ G) → ⊥
  verdict t = pick (λ e d. pick (λ e' d'. commit_abort (cc)) (λ h'. commit_abort (d.1 abort h'))) (λ h. pick (λ e' d'. commit_abort (sym (d'.1 commit h))) (λ h'. i.one_verdict t h h'))

  pub invariant_more : Invariant X (φ ∷ G) entries
  invariant_more =
      record {
        good = λ b w t. good_more φ (i.good b w t);
        clear_of_begun = i.clear_of_begun;
        checked_apart = i.checked_apart;
        result_ok = λ t w. pick (λ e d. d.0 refl) (i.result_ok t w);
        result_one = one;
        declared = λ t w r. pick (λ e d. (Memᴰ.tail d.0, d.1)) (λ h. let (m, q) = i.declared t w r h in (Memᴰ.tail m, q));
        commit_after = λ t. pick (λ e d. let (u, c) = d.0 refl in (u, Memᴰ.tail c)) (λ h. let (u, d) = i.commit_after t h in (u, Memᴰ.tail d));
        one_verdict = verdict;
        finished = λ t w o. pick (λ e d. d) (i.finished t w o);
        promise = λ b v x cells. pick (λ e d. d.0) (i.promise b v x cells);
        crossing = λ b v x cells u t m h. pick (λ e d. d.1 u t h) (λ m'. i.crossing b v x cells u t m' h) m;
        seen = λ b w t h. still φ (i.seen b w t h);
        began = λ v. pick (λ e d. began_wider (λ ψ h. Memᴰ.tail h) d) (λ h. began_wider (λ ψ k. Memᴰ.tail k) (i.began v h));
      }
