-- 01, 'Judging the promises': "Marked cases, one table and a single statement, on the definitions". The register k is 5.
use Rattle.std.specs.Prelude.{List, [], ◌∷◌, ◌++◌, ℕ, replicate}
use Rattle.rules.specs.Stamps.{Body}
use Rattle.rules.specs.Tables.{Result.OK, Result.ABORT, Result.ABSTAIN, Result.RETRY, Prepare, Prepare.tentative, Prepare.final, Verdict.commit, Outcome, Outcome.no_outcome, Outcome.done, Row, Table, changing_mode, fresh_table}
use Rattle.cases.specs.Kinds.{Case, Case.counts, Case.checked, Case.proposed, Case.merged, Case.imaged}

abbrev pub reads : ℕ → Body
reads version = record { reads = record { register = 5; number = version } ∷ []; writes = [] }

abbrev pub writes : Body
writes = record { reads = []; writes = record { register = 5; number = 7 } ∷ [] }

abbrev pub row : ℕ → Body → Prepare → Outcome → Row
row s x p o = record { stamp = s; body = x; prepare = p; outcome = o }

abbrev pub committed : ℕ → Body → Row
committed s x = row s x (final OK) (done commit)

abbrev pub prepared : ℕ → Body → Row
prepared s x = row s x (tentative OK) no_outcome

-- box b of n, in view `view`, changing to view v
abbrev pub changing : ℕ → ℕ → ℕ → ℕ → List Row → Table
changing n v box view rows = record { box = box; n = n; mode = changing_mode; view = view; promised = v; start = 0; rows = rows }

-- a merge for view 1 of two tables of three: one entry is open in the first, the rows of the other are in both
abbrev pub beside_open : List Row → List Row → List Table
beside_open first both = changing 3 1 0 0 first ∷ changing 3 1 1 0 both ∷ []

unfoldable pub marked : List Case
marked =
    -- M1 to M3: "the count rows above"
    counts 1 2 3 2
    ∷ counts 2 3 4 2
    ∷ counts 3 4 6 3
    -- M4: "committed write of k at 10; s 20 read k at 0: ABORT". M5: "read at 10: OK".
    ∷ checked (committed 10 writes ∷ []) 20 (reads 0) ABORT
    ∷ checked (committed 10 writes ∷ []) 20 (reads 10) OK
    -- M6: "s 8 read at 0: OK". 02: "M6 and M9 become merge cases"; message 1 gets ABORT
    ∷ merged 1 (beside_open (prepared 8 (reads 0) ∷ committed 10 writes ∷ []) (committed 10 writes ∷ [])) 8 (final OK)
    ∷ proposed (committed 10 writes ∷ []) 8 (reads 0) ABORT
    -- M7: "committed read of k at 10 by 30; write at 20: RETRY 30". M8: "write at 31: OK".
    ∷ checked (committed 30 (reads 10) ∷ []) 20 writes (RETRY 30)
    ∷ checked (committed 30 (reads 10) ∷ []) 31 writes OK
    -- M9: "write at 9: OK"; message 1 gets RETRY 30
    ∷ merged 1 (beside_open (prepared 9 writes ∷ committed 30 (reads 10) ∷ []) (committed 30 (reads 10) ∷ [])) 9 (final OK)
    ∷ proposed (committed 30 (reads 10) ∷ []) 9 writes (RETRY 30)
    -- 02: "Case M7 gains a companion with a prepared reader at 40 that read at 10: RETRY 40."
    ∷ checked (committed 30 (reads 10) ∷ prepared 40 (reads 10) ∷ []) 20 writes (RETRY 40)
    -- M10: "M4 with the write prepared: ABSTAIN"
    ∷ checked (prepared 10 writes ∷ []) 20 (reads 0) ABSTAIN
    -- M11: "f 2; t1 tentative OK in two tables, clashing t2 final OK in the third, no outcomes: t1 ABSTAIN"
    ∷ merged 1 (changing 5 1 0 0 (prepared 20 (reads 0) ∷ []) ∷ changing 5 1 1 0 (prepared 20 (reads 0) ∷ []) ∷ changing 5 1 2 0 (row 10 writes (final OK) no_outcome ∷ []) ∷ []) 20 (final ABSTAIN)
    -- M12: "the fresh image": "01 00 03 00, sixteen 00, 00 00 00 18"
    ∷ imaged (fresh_table 3 0) (1 ∷ 0 ∷ 3 ∷ 0 ∷ replicate 16 0 ++ (0 ∷ 0 ∷ 0 ∷ 24 ∷ []))
    ∷ []
