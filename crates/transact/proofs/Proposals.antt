-- Messages 1 and 3, by what was found for them.
use mathlib.Core.Path.{◌≡◌, refl, ap, ◌∙◌}
use mathlib.Core.Bool.{Bool, true, false, cond, not}
use mathlib.Core.List.{List}
use mathlib.Core.Logic.{◌⊎◌, inl, inr}
use mathlib.Core.Option.{Option, some, none}
use Prim.Native.Nat.{ℕ}
use lib.ListN.{length}
use Rattle.std.specs.Prelude.{Result, Ok, Err}
use Rattle.numbers.specs.declared.Refusal.{Refusal}
use Rattle.numbers.specs.declared.Refusal.TheVariants.{Changing, OtherBody, Contradiction, Full}
use Rattle.numbers.specs.Refusals.{refusal_code}
use Rattle.rules.specs.Tests.{both, is_some}
use Rattle.rules.specs.Groups.{f_of}
use Rattle.rules.specs.Stamps.{Body}
use Rattle.rules.specs.Tables.{Row, Model, Table}
use Rattle.rules.specs.Messages.{Message, held}
use Rattle.rules.specs.Circumstances.{keeps_room, is_changing, held_with_other_body, new_but_full}
use Rattle.rules.proofs.Logic.{cases, both_left, impossible}
use Rattle.rows.specs.declared.lookup.Place.{Place}
use Rattle.rows.specs.declared.lookup.Place.TheVariants.{Held, Absent}
use Rattle.rows.specs.Inner.Places.{place_of}
use Rattle.table.specs.Images.{format_one}
use Rattle.table.specs.Parse.{table_at}
use Rattle.edit.specs.Inner.Holding.{Holds}
use Rattle.seek.specs.Inner.Findings.{to_propose}
use Rattle.transact.specs.Inner.Served.{served_number}
use Rattle.transact.proofs.Serving.{Kept, kept_refused}

-- which way a look for a row to propose for went
data Way (M : Model) (T : Table) (s : ℕ) (x : Body) : Result Place Refusal → Type 0 where
  changing : is_changing T ≡ true → Way M T s x (Err Changing)
  other_body : is_changing T ≡ false → held_with_other_body T s x ≡ true → Way M T s x (Err OtherBody)
  full : is_changing T ≡ false → held_with_other_body T s x ≡ false → new_but_full M keeps_room T s ≡ true → Way M T s x (Err Full)
  there : (i : ℕ) → is_changing T ≡ false → held_with_other_body T s x ≡ false → new_but_full M keeps_room T s ≡ false → place_of T.rows s ≡ Held i → Way M T s x (Ok (Held i))
  new : (i : ℕ) → is_changing T ≡ false → held_with_other_body T s x ≡ false → new_but_full M keeps_room T s ≡ false → place_of T.rows s ≡ Absent i → Way M T s x (Ok (Absent i))

way : (M : Model) (T : Table) (s : ℕ) (x : Body) → Way M T s x (to_propose M T s x)
unfolding to_propose
way M T s x = go (cases (is_changing T)) (cases (held_with_other_body T s x)) (cases (new_but_full M keeps_room T s)) (place_of T.rows s) refl
  where
    go : (is_changing T ≡ true) ⊎ (is_changing T ≡ false) → (held_with_other_body T s x ≡ true) ⊎ (held_with_other_body T s x ≡ false) → (new_but_full M keeps_room T s ≡ true) ⊎ (new_but_full M keeps_room T s ≡ false) → (p : Place) → place_of T.rows s ≡ p → Way M T s x (to_propose M T s x)
    go (inl a) b c p e = rw a (changing a)
    go (inr a) (inl b) c p e = rw (a, b) (other_body a b)
    go (inr a) (inr b) (inl c) p e = rw (a, b, c) (full a b c)
    go (inr a) (inr b) (inr c) (Held i) e = rw (a, b, c, e) (there i a b c e)
    go (inr a) (inr b) (inr c) (Absent i) e = rw (a, b, c, e) (new i a b c e)

-- nothing was against it so far
abbrev pub Clear : Model → Table → ℕ → Body → Type 0
Clear M T s x = (is_changing T ≡ false) × (held_with_other_body T s x ≡ false) × (new_but_full M keeps_room T s ≡ false)

module _ (M : Model) (T : Table) (s : ℕ) (x : Body) (i : ℕ) where
  pub held_clear : to_propose M T s x ≡ Ok (Held i) → Clear M T s x × (place_of T.rows s ≡ Held i)
  held_clear e = go (way M T s x) e
    where
      go : {found : Result Place Refusal} → Way M T s x found → found ≡ Ok (Held i) → Clear M T s x × (place_of T.rows s ≡ Held i)
      go (changing a) same = cc
      go (other_body a b) same = cc
      go (full a b c) same = cc
      go (there j a b c p) same = let i_is : j ≡ i = cc in ((a, b, c), p ∙ ap Held i_is)
      go (new j a b c p) same = cc

  pub new_clear : to_propose M T s x ≡ Ok (Absent i) → Clear M T s x × (place_of T.rows s ≡ Absent i)
  new_clear e = go (way M T s x) e
    where
      go : {found : Result Place Refusal} → Way M T s x found → found ≡ Ok (Absent i) → Clear M T s x × (place_of T.rows s ≡ Absent i)
      go (changing a) same = cc
      go (other_body a b) same = cc
      go (full a b c) same = cc
      go (there j a b c p) same = cc
      go (new j a b c p) same = let i_is : j ≡ i = cc in ((a, b, c), p ∙ ap Absent i_is)

-- a stamp that is new has no row
pub new_unheld : (M : Model) (T : Table) (s : ℕ) → new_but_full M keeps_room T s ≡ true → held T.rows s ≡ none
unfolding new_but_full
new_unheld M T s h = go (held T.rows s) (both_left _ _ h)
  where
    go : (r : Option Row) → not (is_some r) ≡ true → r ≡ none
    go none e = refl
    go (some r) e = impossible e refl

-- and one that found room has it
pub room_found : (M : Model) (T : Table) (s : ℕ) → held T.rows s ≡ none → new_but_full M keeps_room T s ≡ false → keeps_room M.row_limit (f_of T.n) T.start (length T.rows) ≡ true
unfolding new_but_full both
room_found M T s unheld h = go (keeps_room M.row_limit (f_of T.n) T.start (length T.rows)) (rw unheld at h)
  where
    go : (b : Bool) → not b ≡ false → b ≡ true
    go true e = refl
    go false e = impossible refl e

-- ---- the number, for both kinds: what else may be against it is given as a test

module _ (M : Model) (s : List ℕ) (stamp : ℕ) (x : Body) (holds : Holds format_one s) (m : Message) (against : Bool)
    (number : served_number M (table_at format_one s) m ≡ cond (is_changing (table_at format_one s)) 4 (cond (held_with_other_body (table_at format_one s) stamp x) 5 (cond against 6 (cond (new_but_full M keeps_room (table_at format_one s) stamp) 7 0))))
    (unheld : held (table_at format_one s).rows stamp ≡ none → against ≡ false) where
  abbrev T : Table
  T = table_at format_one s

  refuses : (r : Refusal) → served_number M T m ≡ refusal_code r → Kept M m s (Err r) s
  refuses r is = kept_refused M m s r holds is

  pub proposal_refused : (r : Refusal) → to_propose M (table_at format_one s) stamp x ≡ Err r → Kept M m s (Err r) s
  proposal_refused r e = go (way M T stamp x) e
    where
      as_said : {q : Refusal} → Kept M m s (Err q) s → ◌≡◌ {A = Result Place Refusal} (Err q) (Err r) → Kept M m s (Err r) s
      as_said {q} kept same = let q_is : q ≡ r = cc in rw q_is at kept

      go : {found : Result Place Refusal} → Way M T stamp x found → found ≡ Err r → Kept M m s (Err r) s
      go (changing a) same = as_said (refuses Changing (number ∙ rw a)) same
      go (other_body a b) same = as_said (refuses OtherBody (number ∙ rw (a, b))) same
      go (full a b c) same = as_said (refuses Full (number ∙ rw (a, b, unheld (new_unheld M T stamp c), c))) same
      go (there i a b c p) same = cc
      go (new i a b c p) same = cc

  pub proposal_opposed : Clear M (table_at format_one s) stamp x → against ≡ true → Kept M m s (Err Contradiction) s
  proposal_opposed (a, b, c) e = refuses Contradiction (number ∙ rw (a, b, e))

  pub proposal_clear : Clear M (table_at format_one s) stamp x → against ≡ false → served_number M (table_at format_one s) m ≡ 0
  proposal_clear (a, b, c) e = number ∙ rw (a, b, e, c)
