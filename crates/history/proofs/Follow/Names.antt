-- What a history names by a stamp or by a view: the one body that was sent for it, the rows of the one table that was sent for it.
use mathlib.Core.Path.{◌≡◌, refl, sym, ap, ap₂, subst, ◌∙◌}
use mathlib.Core.Bool.{Bool, true, false, cond}
use mathlib.Core.Logic.{◌⊎◌, inl, inr}
use mathlib.Core.Option.{Option, none, some}
use mathlib.Core.List.Memᴰ
use mathlib.Core.List.{List, [], ◌∷◌}
use Prim.Native.Nat.{ℕ, ◌<◌}
use native.Mathlib.Omega.{arith}
use lib.Dec.{eqb}
use borrow.Author.Tests.{eqb-true, ne_eqb}
use Rattle.rules.specs.Tests.{both, every, first_of, provided, all_of}
use Rattle.rules.specs.Stamps.{Body}
use Rattle.rules.specs.Tables.{Row, Table, Model}
use Rattle.rules.specs.Messages.{Message, Message.propose_prepare, Message.finalise_prepare, Message.propose_outcome, Message.finalise_outcome, Message.change_view, Message.start_view, Message.read_register, Check}
use Rattle.rules.specs.Circumstances.{Room, settled}
use Rattle.rules.specs.Check.{check}
use Rattle.rules.specs.Merge.{no_body, merge}
use Rattle.rules.proofs.Logic.{none_some, both_left, both_right, eqb_self}
use Rattle.rules.proofs.Lists.{◌∈◌, first_is, first_from, provided_some}
use Rattle.history.specs.Survival.{Sent, Group, Event, Event.sends, Event.arrives, Event.declares, Event.merges, at, sending, step, after, Carries, OneBody, TheMerged, MaySend, May, Lawful}
use Rattle.history.proofs.Follow.Follows.{last_or}
use Rattle.history.proofs.Follow.Following.{arriving_sent, merging_sent}

-- ---- what a history names by a stamp or a view: the first that was sent

unfoldable pub carried_body : ℕ → Message → Option Body
carried_body t (propose_prepare u x) = provided (eqb u t) x
carried_body t (finalise_prepare u v r) = none
carried_body t (propose_outcome u o x) = provided (eqb u t) x
carried_body t (finalise_outcome u v o) = none
carried_body t (change_view v) = none
carried_body t (start_view v I) = none
carried_body t (read_register u k) = none

unfoldable pub started_rows : ℕ → Message → Option (List Row)
started_rows v (propose_prepare t x) = none
started_rows v (finalise_prepare t u r) = none
started_rows v (propose_outcome t o x) = none
started_rows v (finalise_outcome t u o) = none
started_rows v (change_view u) = none
started_rows v (start_view u I) = provided (both (eqb u v) (every settled I.rows)) I.rows
started_rows v (read_register t k) = none

unfoldable pub or_by : {A : Type 0} → A → Option A → A
or_by a none = a
or_by a (some x) = x

unfoldable pub body_named : List Sent → ℕ → Body
body_named xs t = or_by no_body (first_of (λ x. carried_body t x.message) xs)

unfoldable pub rows_named : List Sent → ℕ → List Row
rows_named xs v = cond (eqb v 0) [] (or_by [] (first_of (λ x. started_rows v x.message) xs))

-- ---- by the premises there is one of each

-- this message is among those sent
abbrev pub SentIn : List Sent → Message → Type 0
SentIn xs m = (b : ℕ) × (record { box = b; message = m } ∈ xs)

-- one body for a stamp, one table for a view
pub record OneEach (xs : List Sent) : Type 0 where
  pub body : (m q : Message) (t : ℕ) (x y : Body) → SentIn xs m → SentIn xs q → Carries t x m → Carries t y q → x ≡ y
  pub table : (v : ℕ) (I J : Table) → SentIn xs (start_view v I) → SentIn xs (start_view v J) → I ≡ J

carries_one : (m : Message) (t : ℕ) (x y : Body) → Carries t x m → Carries t y m → x ≡ y
carries_one m t x y (inl e) (inl k) = cc
carries_one m t x y (inl e) (inr (o, k)) = let z : ◌≡◌ {A = ℕ} 0 1 = cc in absurd (omega arith)
carries_one m t x y (inr (o, e)) (inl k) = let z : ◌≡◌ {A = ℕ} 0 1 = cc in absurd (omega arith)
carries_one m t x y (inr (o, e)) (inr (u, k)) = cc

module _ (G : Group) (b : ℕ) (m : Message) (may : MaySend G b m) (one : OneEach G.sent) where
  abbrev now : List Sent
  now = (sending G (record { box = b; message = m })).sent

  sent_or : (q : Message) → SentIn now q → SentIn G.sent q ⊎ (q ≡ m)
  sent_or q (c, i) = go (last_or G.sent i)
    where
      go : (record { box = c; message = q } ∈ G.sent) ⊎ ◌≡◌ {A = Sent} (record { box = c; message = q }) (record { box = b; message = m }) → SentIn G.sent q ⊎ (q ≡ m)
      go (inl k) = inl (c, k)
      go (inr e) = inr (ap (λ (y : Sent). y.message) e)

  -- rule 1, for whichever message carries a body
  body_rule : (t : ℕ) (x : Body) → Carries t x m → OneBody G t x
  body_rule t x (inl e) = subst (MaySend G b) e may
  body_rule t x (inr (o, e)) = (subst (MaySend G b) e may).0

  table_rule : (v : ℕ) (I : Table) → start_view v I ≡ m → TheMerged G v I
  table_rule v I e = subst (MaySend G b) (sym e) may

  sends_one_each : OneEach now
  sends_one_each = record { body = λ p q t x y i j c d. bodies p q t x y c d (sent_or p i) (sent_or q j); table = λ v I J i j. tables v I J (sent_or _ i) (sent_or _ j) }
    where
      bodies : (p q : Message) (t : ℕ) (x y : Body) → Carries t x p → Carries t y q → SentIn G.sent p ⊎ (p ≡ m) → SentIn G.sent q ⊎ (q ≡ m) → x ≡ y
      bodies p q t x y c d (inl i) (inl j) = one.body p q t x y i j c d
      bodies p q t x y c d (inl i) (inr e) = body_rule t y (subst (Carries t y) e d) p x i c
      bodies p q t x y c d (inr e) (inl j) = sym (body_rule t x (subst (Carries t x) e c) q y j d)
      bodies p q t x y c d (inr e) (inr k) = carries_one m t x y (subst (Carries t x) e c) (subst (Carries t y) k d)

      tables : (v : ℕ) (I J : Table) → SentIn G.sent (start_view v I) ⊎ (start_view v I ≡ m) → SentIn G.sent (start_view v J) ⊎ (start_view v J ≡ m) → I ≡ J
      tables v I J (inl i) (inl j) = one.table v I J i j
      tables v I J (inl i) (inr e) = (table_rule v J e).1 I i
      tables v I J (inr e) (inl j) = sym ((table_rule v I e).1 J j)
      tables v I J (inr e) (inr k) = let z : start_view v I ≡ start_view v J = e ∙ sym k in cc

module _ (M : Model) (room : Room) (proposals : Check) where
  one_each_next : (G : Group) (e : Event) → May G e → OneEach G.sent → OneEach (step M room proposals G e).sent
  one_each_next G (sends b m) may one = sends_one_each G b m may one
  one_each_next G (arrives k) may one = subst OneEach (sym (arriving_sent M room proposals G (at G.sent k))) one
  one_each_next G (declares s v r) may one = one
  one_each_next G (merges v ks) may one = subst OneEach (sym (merging_sent M room proposals G v (merge M check v (all_of (at G.had) ks)))) one

  pub one_each : (es : List Event) (G : Group) → Lawful M room proposals G es → OneEach G.sent → OneEach (after M room proposals G es).sent
  one_each [] G law one = one
  one_each (e ∷ es) G (may, rest) one = one_each es (step M room proposals G e) rest (one_each_next G e may one)

-- ---- so what is sent is what the history names

carried : (t : ℕ) (m : Message) (x : Body) → carried_body t m ≡ some x → Carries t x m
unfolding carried_body
carried t (propose_prepare u y) x e = let (k, i) = provided_some (eqb u t) y x e in inl (ap₂ propose_prepare (eqb-true u t k) i)
carried t (finalise_prepare u v r) x e = none_some e
carried t (propose_outcome u o y) x e = let (k, i) = provided_some (eqb u t) y x e in inr (o, ap₂ (λ (a : ℕ) (c : Body). propose_outcome a o c) (eqb-true u t k) i)
carried t (finalise_outcome u v o) x e = none_some e
carried t (change_view v) x e = none_some e
carried t (start_view v I) x e = none_some e
carried t (read_register u k) x e = none_some e

started : (v : ℕ) (m : Message) (rows : List Row) → started_rows v m ≡ some rows → (I : Table) × (m ≡ start_view v I) × (I.rows ≡ rows) × (every settled rows ≡ true)
unfolding started_rows
started v (propose_prepare t x) rows e = none_some e
started v (finalise_prepare t u r) rows e = none_some e
started v (propose_outcome t o x) rows e = none_some e
started v (finalise_outcome t u o) rows e = none_some e
started v (change_view u) rows e = none_some e
started v (start_view u I) rows e =
    let (k, i) = provided_some (both (eqb u v) (every settled I.rows)) I.rows rows e in
    (I, ap (λ (w : ℕ). start_view w I) (eqb-true u v (both_left _ _ k)), i, rw (← i) (both_right (eqb u v) _ k))
started v (read_register t k) rows e = none_some e

pub none_sent : OneEach []
none_sent = record { body = λ m q t x y i j c d. absurd (Memᴰ.not-nil i.1); table = λ v I J i j. absurd (Memᴰ.not-nil i.1) }

module _ (xs : List Sent) where
  pub named_shut : (v : ℕ) → every settled (rows_named xs v) ≡ true
  unfolding rows_named every or_by
  named_shut v = go (eqb v 0) (first_of (λ x. started_rows v x.message) xs) refl
    where
      go : (c : Bool) (o : Option (List Row)) → first_of (λ x. started_rows v x.message) xs ≡ o → every settled (cond c [] (or_by [] o)) ≡ true
      go true o e = refl
      go false none e = refl
      go false (some rows) e = let (x, i, k) = first_from (λ x. started_rows v x.message) xs rows e in (started v x.message rows k).3

  pub named_empty : rows_named xs 0 ≡ []
  unfolding rows_named
  named_empty = refl

  module _ (one : OneEach xs) where
    pub body_named_lem : (b t : ℕ) (m : Message) (y : Body) → record { box = b; message = m } ∈ xs → carried_body t m ≡ some y → y ≡ body_named xs t
    unfolding body_named or_by
    body_named_lem b t m y i e = sym (ap (or_by no_body) (first_is (λ x. carried_body t x.message) xs (record { box = b; message = m }) y i e (λ z w j k. one.body z.message m t w y (z.box, j) (b, i) (carried t z.message w k) (carried t m y e))))

    pub rows_named_lem : (b v : ℕ) (I : Table) → record { box = b; message = start_view v I } ∈ xs → every settled I.rows ≡ true → 0 < v → rows_named xs v ≡ I.rows
    unfolding rows_named or_by started_rows both
    rows_named_lem b v I i shut l =
        rw (ne_eqb v 0 (λ e. omega arith))
        (ap (or_by []) (first_is (λ x. started_rows v x.message) xs (record { box = b; message = start_view v I }) I.rows i (rw (eqb_self v, shut) refl) (λ z w j k. let (J, q, rows, s) = started v z.message w k in sym rows ∙ ap (λ (T : Table). T.rows) (one.table v J I (z.box, subst (λ (p : Message). record { box = z.box; message = p } ∈ xs) q j) (b, i)))))
