-- A row and a table by the rules, fact by fact, and back.
use mathlib.Core.Path.{◌≡◌}
use mathlib.Core.Bool.{true}
use Prim.Native.Nat.{ℕ, ◌/◌, ◌%◌, ◌^◌, ◌≤◌, ◌<◌}
use native.Mathlib.Nat.{div-add-mod', div-lt_iff_lt-mul, mod-lt}
use native.Mathlib.Omega.{arith}
use lib.Dec.{eqb}
use lib.ListN.{length}
use borrow.Author.Tests.{ltb-true, lt-ltb, leb-true, le-leb}
use Rattle.rules.specs.Tests.{both, every}
use Rattle.rules.specs.Groups.{is_group}
use Rattle.rules.specs.Stamps.{is_stamp, counts_by_rule, contents_by_rule}
use Rattle.rules.specs.Inner.StampParts.{stamp_of}
use Rattle.rules.specs.Tables.{Result, Result.OK, Result.ABORT, Result.ABSTAIN, Result.RETRY, Verdict, Verdict.commit, Verdict.abort, result_code, verdict_code, something_held, retry_by_rule, Row, row_by_rule, rising, Model, Table, is_view, mode_by_rule, header_by_rule, table_by_rule}
use Rattle.rules.proofs.Logic.{both_left, both_right, both_true, either_none}

pub stamp_positive : (s : ℕ) → is_stamp s ≡ true → 0 < s
unfolding is_stamp
stamp_positive s h = ltb-true 0 s (both_left _ _ h)

-- a stamp is of one time and one client
pub stamp_parts : (s : ℕ) → is_stamp s ≡ true → (stamp_of (s / 65536) (s % 65536) ≡ s) × (s / 65536 < 2 ^ 32) × (s % 65536 < 65536)
unfolding is_stamp stamp_of
stamp_parts s h =
    let l : s < 2 ^ 48 = ltb-true s (2 ^ 48) (both_right _ _ h) in
    (div-add-mod' s 65536, (div-lt_iff_lt-mul {k = 65536} {x = s} {y = 2 ^ 32} (omega arith)).1 l, mod-lt s (omega arith))

-- ---- codes

pub verdict_counts : (v : Verdict) → 0 < verdict_code v
verdict_counts commit = omega arith
verdict_counts abort = omega arith

pub result_counts : (r : Result) → 0 < result_code r
result_counts OK = omega arith
result_counts ABORT = omega arith
result_counts ABSTAIN = omega arith
result_counts (RETRY s) = omega arith

-- ---- a row

pub record RowByRule (r : Row) : Type 0 where
  pub stamp : is_stamp r.stamp ≡ true
  pub counts : counts_by_rule (length r.body.reads) (length r.body.writes) ≡ true
  pub held : something_held r.prepare r.outcome ≡ true
  pub retry : retry_by_rule r.prepare ≡ true
  pub contents : contents_by_rule r.stamp r.body ≡ true

pub row_facts : (r : Row) → row_by_rule r ≡ true → RowByRule r
unfolding row_by_rule
row_facts r h =
    let a = both_right _ _ h in
    let b = both_right _ _ a in
    let c = both_right _ _ b in
    record { stamp = both_left _ _ h; counts = both_left _ _ a; held = both_left _ _ b; retry = both_left _ _ c; contents = both_right _ _ c }

pub row_by : {r : Row} → RowByRule r → row_by_rule r ≡ true
unfolding row_by_rule
row_by f = both_true f.stamp (both_true f.counts (both_true f.held (both_true f.retry f.contents)))

-- ---- a table

-- all that a table by the rules keeps but for how many rows it may have
pub record Regular (T : Table) : Type 0 where
  pub group : is_group T.n ≡ true
  pub box : T.box < T.n
  pub view : is_view T.view ≡ true
  pub promised : is_view T.promised ≡ true
  pub mode : mode_by_rule T.mode T.view T.promised ≡ true
  pub start : T.start ≤ length T.rows
  pub rise : rising 0 T.rows ≡ true
  pub rows : every row_by_rule T.rows ≡ true

pub table_facts : (M : Model) (T : Table) → table_by_rule M T ≡ true → Regular T × (length T.rows ≤ M.row_limit)
unfolding table_by_rule header_by_rule
table_facts M T h =
    let head = both_left _ _ h in
    let tail = both_right _ _ h in
    let names = both_left _ _ head in
    let views = both_left _ _ (both_right _ _ head) in
    let rest = both_right _ _ (both_right _ _ head) in (
      record {
        group = both_left _ _ names;
        box = ltb-true _ _ (both_right _ _ names);
        view = both_left _ _ views;
        promised = both_right _ _ views;
        mode = both_left _ _ rest;
        start = leb-true _ _ (both_right _ _ rest);
        rise = both_left _ _ (both_right _ _ tail);
        rows = both_right _ _ (both_right _ _ tail);
      },
      leb-true _ _ (both_left _ _ tail),
    )

pub table_by : (M : Model) {T : Table} → Regular T → length T.rows ≤ M.row_limit → table_by_rule M T ≡ true
unfolding table_by_rule header_by_rule
table_by M {T} f limit =
    both_true
    (both_true (both_true f.group (lt-ltb _ _ f.box)) (both_true (both_true f.view f.promised) (both_true f.mode (le-leb _ _ f.start))))
    (both_true (le-leb _ _ limit) (both_true f.rise f.rows))

-- ---- the mode that a header names, and what it asks of the views

pub normal_views : (view promised : ℕ) → mode_by_rule 0 view promised ≡ eqb promised view
unfolding mode_by_rule both
normal_views view promised = either_none (eqb promised view)
