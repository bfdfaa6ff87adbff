-- 02, P2, in buffers and calls: "under demand 3's premises a merge is then never refused as full".
use Rattle.std.specs.Prelude.{◌≡◌, false, ◌⊎◌, List, ◌∷◌, ℕ, ◌≤◌, length}
use Rattle.rules.specs.Tests.{twice}
use Rattle.rules.specs.Groups.{f_of, quorum}
use Rattle.rules.specs.Tables.{Model, changing_mode}
use Rattle.rules.specs.Numbers.{Number.wrong_tables, number_code}
use Rattle.table.specs.Headers.{header_at}
use Rattle.merge.specs.Calls as merge
use Rattle.history.specs.Survival.{◌∈◌}
use Rattle.group.specs.Said.{laid_images}
use Rattle.group.specs.Acts.{GroupInBuffers}

-- "From f+1 changing tables that promised v", of different boxes, as their headers have it
pub record PromisedIn (n v : ℕ) (tables : List (List ℕ)) : Type 0 where
  pub enough : length tables ≡ quorum (f_of n)
  pub different : twice (λ s. (header_at s).boxnumber) tables ≡ false
  pub changing : (s : List ℕ) → s ∈ tables → ((header_at s).mode ≡ changing_mode) × ((header_at s).promised ≡ v)

pub record MergesNeverFull (M : Model) (B : GroupInBuffers) : Type 0 where
  -- one or more images, each of which a box's table buffer began with at some time, are laid end to end, and `merge` is called on them for whichever view, with an output buffer that is large enough: it ends with 0 or with 11
  pub merges : (v : ℕ) (first : List ℕ) (more : List (List ℕ)) (out : List ℕ) → ((s : List ℕ) → s ∈ (first ∷ more) → s ∈ B.had) → M.least_buffer ≤ length out → let k = merge.call_number M (laid_images (first ∷ more)) v out in (k ≡ 0) ⊎ (k ≡ number_code wrong_tables)
  -- f+1 of different boxes that promised the view: it ends with 0
  pub view_change : (v : ℕ) (tables : List (List ℕ)) (out : List ℕ) → ((s : List ℕ) → s ∈ tables → s ∈ B.had) → M.least_buffer ≤ length out → PromisedIn B.n v tables → merge.call_number M (laid_images tables) v out ≡ 0
