-- 01, 'Stamps and bodies'.
use Rattle.std.specs.Prelude.{Bool, true, false, List, [], ◌∷◌, ℕ, suc, ◌+◌, ◌^◌, eqb, ltb, leb, length}
use Rattle.rules.specs.Tests.{both}

-- "A stamp is 1 to 2^48-1 in 8 bytes": a number, since "It orders and names one transaction"
unfoldable pub is_stamp : ℕ → Bool
is_stamp s = both (ltb 0 s) (ltb s (2 ^ 48))

-- "each is 9 bytes: register (0 to 63), then for a read the version seen .., for a write any 8-byte value"
pub record Access : Type 0 where
  pub register : ℕ
  pub number : ℕ  -- a read's version, a write's value

-- "A body is 0 to 4 reads, then 0 to 4 writes"
pub record Body : Type 0 where
  pub reads : List Access
  pub writes : List Access

unfoldable pub is_register : ℕ → Bool
is_register k = ltb k 64

-- "A body is 0 to 4 reads, then 0 to 4 writes, at least one access in all"
unfoldable pub counts_by_rule : ℕ → ℕ → Bool
counts_by_rule reads writes = both (leb reads 4) (both (leb writes 4) (ltb 0 (reads + writes)))

-- "Reads have strictly rising registers; so have writes.": each from low on, with a number below the limit
unfoldable pub accesses_by_rule : ℕ → ℕ → List Access → Bool
accesses_by_rule limit low [] = true
accesses_by_rule limit low (a ∷ more) = both (both (leb low a.register) (both (is_register a.register) (ltb a.number limit))) (accesses_by_rule limit (suc a.register) more)

-- "the version seen (0 for never written, always below the stamp)"; "any 8-byte value"
unfoldable pub contents_by_rule : ℕ → Body → Bool
contents_by_rule s x = both (accesses_by_rule s 0 x.reads) (accesses_by_rule (2 ^ 64) 0 x.writes)

-- the body of a transaction at stamp s; nothing forbids that "A register may be both read and written."
unfoldable pub body_by_rule : ℕ → Body → Bool
body_by_rule s x = both (counts_by_rule (length x.reads) (length x.writes)) (contents_by_rule s x)

unfoldable pub same_accesses : List Access → List Access → Bool
same_accesses [] [] = true
same_accesses [] (b ∷ bs) = false
same_accesses (a ∷ more) [] = false
same_accesses (a ∷ more) (b ∷ bs) = both (eqb a.register b.register) (both (eqb a.number b.number) (same_accesses more bs))

-- the same reads and the same writes: a body split otherwise into reads and writes is another
unfoldable pub same_body : Body → Body → Bool
same_body x y = both (same_accesses x.reads y.reads) (same_accesses x.writes y.writes)
