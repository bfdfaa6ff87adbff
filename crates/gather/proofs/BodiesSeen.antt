-- Two bodies of one stamp: one of them is not the first one's.
use mathlib.Core.Path.{◌≡◌, refl, sym, ap, ◌∙◌}
use mathlib.Core.Bool.{true, false, not}
use mathlib.Core.Logic.{◌⊎◌, inl, inr}
use mathlib.Core.List.Memᴰ
use mathlib.Core.List.{List, [], ◌∷◌}
use mathlib.Core.Option.{Option, none, some}
use Prim.Native.Nat.{ℕ}
use lib.Dec.{eqb}
use Rattle.rules.specs.Tests.{both, either, any, some_pair, those, and_also, all_of}
use Rattle.rules.specs.Stamps.{Body, same_body}
use Rattle.rules.specs.Tables.{Row, Table}
use Rattle.rules.specs.Messages.{held}
use Rattle.rules.specs.Circumstances.{unlike, held_with_other_body}
use Rattle.rules.specs.Merge.{rows_of, two_bodies}
use Rattle.rules.proofs.Logic.{impossible, cases, same_test}
use Rattle.rules.proofs.Lists.{◌∈◌, any_some, some_any}
use Rattle.rules.proofs.Same.{same_body_lem, body_same}
use Rattle.gather.specs.Inner.UsedTables.{used_of, other_in}
use Rattle.gather.proofs.UsedRows.{used_not, used_too}

-- the rows of a stamp, table by table
pub others_rows : (newest stamp : ℕ) (x : Body) (Ts : List Table) → any (other_in newest stamp x) Ts ≡ any (λ r. not (same_body x r.body)) (rows_of (used_of newest Ts) stamp)
unfolding any both either those rows_of all_of held_with_other_body
others_rows newest stamp x [] = refl
others_rows newest stamp x (T ∷ Ts) = go (cases (eqb T.view newest)) (others_rows newest stamp x Ts)
  where
    one : (o : Option Row) → any (other_in newest stamp x) Ts ≡ any (λ r. not (same_body x r.body)) (rows_of (used_of newest Ts) stamp) → either (unlike x o) (any (other_in newest stamp x) Ts) ≡ any (λ r. not (same_body x r.body)) (and_also o (rows_of (used_of newest Ts) stamp))
    one none later = later
    one (some r) later = ap (either (not (same_body x r.body))) later

    go : (eqb T.view newest ≡ true) ⊎ (eqb T.view newest ≡ false) → any (other_in newest stamp x) Ts ≡ any (λ r. not (same_body x r.body)) (rows_of (used_of newest Ts) stamp) → any (other_in newest stamp x) (T ∷ Ts) ≡ any (λ r. not (same_body x r.body)) (rows_of (used_of newest (T ∷ Ts)) stamp)
    go (inl e) later = rw (used_too newest stamp T Ts e, e) (one (held T.rows stamp) later)
    go (inr e) later = rw (used_not newest stamp T Ts e, e) later

pub first_other : (r : Row) (rs : List Row) → two_bodies (r ∷ rs) ≡ any (λ q. not (same_body r.body q.body)) (r ∷ rs)
unfolding two_bodies some_pair
first_other r rs = same_test _ _ there back
  where
    there : any (λ x. any (λ y. not (same_body x.body y.body)) (r ∷ rs)) (r ∷ rs) ≡ true → any (λ q. not (same_body r.body q.body)) (r ∷ rs) ≡ true
    there h =
        let (x, m, k) = any_some (λ x. any (λ y. not (same_body x.body y.body)) (r ∷ rs)) (r ∷ rs) h in
        let (y, n, l) = any_some (λ y. not (same_body x.body y.body)) (r ∷ rs) k in
        go x y m n l (cases (same_body r.body x.body)) (cases (same_body r.body y.body))
      where
        go : (x y : Row) → x ∈ (r ∷ rs) → y ∈ (r ∷ rs) → not (same_body x.body y.body) ≡ true → (same_body r.body x.body ≡ true) ⊎ (same_body r.body x.body ≡ false) → (same_body r.body y.body ≡ true) ⊎ (same_body r.body y.body ≡ false) → any (λ q. not (same_body r.body q.body)) (r ∷ rs) ≡ true
        go x y m n l (inr d) b = some_any (λ q. not (same_body r.body q.body)) (r ∷ rs) x m (rw d refl)
        go x y m n l (inl e) (inr d) = some_any (λ q. not (same_body r.body q.body)) (r ∷ rs) y n (rw d refl)
        go x y m n l (inl e) (inl f) =
            let i : x.body ≡ y.body = sym (same_body_lem r.body x.body e) ∙ same_body_lem r.body y.body f in
            impossible l (rw (i, body_same y.body) refl)

    back : any (λ q. not (same_body r.body q.body)) (r ∷ rs) ≡ true → any (λ x. any (λ y. not (same_body x.body y.body)) (r ∷ rs)) (r ∷ rs) ≡ true
    back h = some_any (λ x. any (λ y. not (same_body x.body y.body)) (r ∷ rs)) (r ∷ rs) r (Memᴰ.head refl) h
