-- The tables of boxes that are named: whether there is one of each, and their images laid end to end, one more in each turn; then the merge of them.
use mathlib.Core.Path.{◌≡◌, refl, sym, ap, ◌∙◌}
use mathlib.Core.Bool.{true, false}
use mathlib.Core.List.{List, [], ◌∷◌, ◌++◌}
use mathlib.Core.Option.{Option, none, some}
use Rattle.std.specs.Prelude as given
use Prim.Native.Nat.{ℕ, ◌+◌, ◌*◌, ◌/◌, ◌≤◌, ◌<◌}
use native.Mathlib.Nat.{add-zero, zero-add, mul-suc, mul_comm, div-lt_iff_lt-mul, le-div_iff_mul-le}
use native.Mathlib.Numerals.{add-one}
use native.Mathlib.Omega.{arith}
use lib.ListN.{length, take, drop, get_or, length-append, length-take, drop_of_length-le}
use lib.Seq.{drop-cons, take_at, take-append_seam, length-take-le}
use borrow.Author.Tests.{lt-ltb, le-ltb}
use Rattle.wire.specs.Parts.{replaced}
use Rattle.wire.proofs.Parts.{replaced_nothing, replaced_start, length-replaced, replaced_joined}
use Rattle.rules.specs.Tests.{both, either, is_some}
use Rattle.rules.specs.Tables.{Model, Table}
use Rattle.rules.specs.Circumstances.{too_small}
use Rattle.rules.proofs.Logic.{impossible}
use Rattle.table.specs.declared.header.Header.{Header}
use Rattle.table.specs.Headers.{header_at}
use Rattle.table.specs.Images.{format_one, image_length, image}
use Rattle.table.specs.Parse.{parse, image_found}
use Rattle.table.proofs.Images.{Sound, length_image, parse_begins, parsed}
use Rattle.table.proofs.Found.{found_table}
use Rattle.image_run.specs.Inner.WholeRuns.{laid_out}
use Rattle.image_run.specs.Runs.{or_none, one_or_more, run_tables}
use Rattle.image_run.proofs.RunTurns.{images_none}
use Rattle.merge.specs.Calls as merge
use Rattle.merge.proofs.MergeCall.{merge_number_lem, merge_refused}
use Rattle.boxes.specs.Inner.OneBuffer.{buffer_of, joined, tables_named, run_named, no_run_room, merge_boxes_number, merge_boxes_output, merge_boxes_run}
use Rattle.boxes.proofs.LentTables.{ends_before}

module _ (M : Model) (tables boxes : List ℕ) (i : ℕ) where
  -- the table buffer of the box that the list names there
  abbrev pub buffer_named : List ℕ
  buffer_named = buffer_of M tables (get_or boxes i 0)

  -- as many bytes of it as its header says that the image has
  abbrev pub image_named : List ℕ
  image_named = take (header_at buffer_named).length buffer_named

-- ---- whether there is one of each

joined_some : (M : Model) (o : Option Table) (Ts : Option (List Table)) → is_some (joined M o Ts) ≡ both (is_some o) (is_some Ts)
unfolding both
joined_some M none Ts = refl
joined_some M (some T) none = refl
joined_some M (some T) (some Ts) = refl

module _ (M : Model) (tables boxes : List ℕ) where
  module _ (i : ℕ) (more : i < length boxes) where
    named_turn : tables_named M tables (drop i boxes) ≡ joined M (parse format_one M (buffer_named M tables boxes i)) (tables_named M tables (drop (i + 1) boxes))
    unfolding tables_named
    named_turn = rw (drop-cons boxes i 0 more, add-one i)

    -- a box has a table: those behind it decide
    pub whole_turn : (n : ℕ) → image_found format_one (parse format_one M (buffer_named M tables boxes i)) ≡ given.Some n → is_some (tables_named M tables (drop i boxes)) ≡ is_some (tables_named M tables (drop (i + 1) boxes))
    unfolding both
    whole_turn n h =
        let (T, e, l) = found_table format_one M (buffer_named M tables boxes i) n h in
        ap is_some named_turn ∙ joined_some M (parse format_one M (buffer_named M tables boxes i)) (tables_named M tables (drop (i + 1) boxes)) ∙ rw e

    -- it has none
    pub whole_not : image_found format_one (parse format_one M (buffer_named M tables boxes i)) ≡ given.None → is_some (tables_named M tables (drop i boxes)) ≡ false
    whole_not h = go (parse format_one M (buffer_named M tables boxes i)) refl h
      where
        go : (o : Option Table) → parse format_one M (buffer_named M tables boxes i) ≡ o → image_found format_one o ≡ given.None → is_some (tables_named M tables (drop i boxes)) ≡ false
        go none e f = ap is_some named_turn ∙ rw e
        go (some T) e f = let c : ◌≡◌ {A = ℕ} 0 1 = cc in absurd (omega arith)

  pub whole_end : (i : ℕ) → length boxes ≤ i → is_some (tables_named M tables (drop i boxes)) ≡ true
  unfolding tables_named
  whole_end i l = rw (drop_of_length-le boxes l)

  -- ---- their images

  nothing_laid : (i : ℕ) → length boxes ≤ i → run_named M tables (drop i boxes) ≡ []
  unfolding run_named tables_named laid_out
  nothing_laid i l = rw (drop_of_length-le boxes l)

  -- the next box that is named: its image is laid before those of the boxes behind it
  pub record Next (i : ℕ) : Type 0 where
    pub long : 24 ≤ length (buffer_named M tables boxes i)
    pub within : (header_at (buffer_named M tables boxes i)).length ≤ length (buffer_named M tables boxes i)
    pub least : length (buffer_named M tables boxes i) ≤ M.least_buffer
    pub onward : is_some (tables_named M tables (drop (i + 1) boxes)) ≡ true
    pub laid : run_named M tables (drop i boxes) ≡ image_named M tables boxes i ++ run_named M tables (drop (i + 1) boxes)

  pub next : Sound format_one M → (i : ℕ) → i < length boxes → is_some (tables_named M tables (drop i boxes)) ≡ true → Next i
  unfolding run_named laid_out
  next sound i more whole = go (parse format_one M s) (tables_named M tables (drop (i + 1) boxes)) refl refl (ap is_some (sym (named_turn i more)) ∙ whole)
    where
      s : List ℕ
      s = buffer_named M tables boxes i

      go : (o : Option Table) (Us : Option (List Table)) → parse format_one M s ≡ o → tables_named M tables (drop (i + 1) boxes) ≡ Us → is_some (joined M o Us) ≡ true → Next i
      go none Us e f w = impossible w refl
      go (some T) none e f w = impossible w refl
      go (some T) (some Ts) e f w =
          let p = parsed format_one M s T sound e in
          let h : (header_at s).length ≡ image_length format_one T = ap (λ (x : Header). x.length) p.header in
          let n : length (image format_one T) ≡ image_length format_one T = length_image format_one T sound.starts in
          let k : take (header_at s).length s ≡ image format_one T = ap (take (header_at s).length) (parse_begins format_one M s T e) ∙ take_at (image format_one T) _ (header_at s).length (n ∙ sym h) in
          let t : tables_named M tables (drop i boxes) ≡ some (T ∷ Ts) = named_turn i more ∙ rw (e, f) in
          let w = p.long in
          let m = length-take M.least_buffer (drop (M.least_buffer * get_or boxes i 0) tables) in
          record {
            long = omega arith;
            within = omega arith;
            least = omega arith;
            onward = ap is_some f;
            laid = ap (λ o. laid_out (or_none o)) t ∙ rw (k, f);
          }

-- ---- laid by the loop

-- after so many turns: `end` is behind the images of the boxes passed, and with the others' laid there the run is as it is to be
pub record Laid (M : Model) (tables boxes asked run : List ℕ) (end i : ℕ) : Type 0 where
  pub passed : i ≤ length boxes
  pub kept : length run ≡ length asked
  pub behind : end ≤ M.least_buffer * i
  pub whole : is_some (tables_named M tables (drop i boxes)) ≡ true
  pub long : end + length (run_named M tables (drop i boxes)) ≡ length (run_named M tables boxes)
  pub left : replaced run end (run_named M tables (drop i boxes)) ≡ replaced asked 0 (run_named M tables boxes)

module _ (M : Model) (tables boxes asked : List ℕ) where
  pub laid_none : is_some (tables_named M tables boxes) ≡ true → Laid M tables boxes asked asked 0 0
  laid_none whole = record { passed = omega arith; kept = refl; behind = omega arith; whole = whole; long = zero-add _; left = refl }

  pub laid_all : (run : List ℕ) (end i : ℕ) → Laid M tables boxes asked run end i → length boxes ≤ i → (end ≡ length (run_named M tables boxes)) × (run ≡ replaced asked 0 (run_named M tables boxes))
  laid_all run end i l over =
      let e : run_named M tables (drop i boxes) ≡ [] = nothing_laid M tables boxes i over in
      (sym (add-zero end) ∙ rw e at l.long, sym (replaced_nothing run end) ∙ rw e at l.left)

  module _ (room : M.least_buffer * length boxes ≤ length asked) (run : List ℕ) (end i : ℕ) (l : Laid M tables boxes asked run end i) (more : i < length boxes) (n : Next M tables boxes i) where
    -- there is room for the next image
    pub next_fits : end + (header_at (buffer_named M tables boxes i)).length ≤ length run
    next_fits =
        let e = ends_before M.least_buffer i (length boxes) more in
        let a = l.kept in
        let b = l.behind in
        let c = n.within in
        let d = n.least in
        omega arith

    pub laid_turn : (after : List ℕ) → after ≡ replaced run end (image_named M tables boxes i) → Laid M tables boxes asked after (end + (header_at (buffer_named M tables boxes i)).length) (i + 1)
    laid_turn after e =
        let s : List ℕ = buffer_named M tables boxes i in
        let ws : List ℕ = image_named M tables boxes i in
        let rest : List ℕ = run_named M tables (drop (i + 1) boxes) in
        let fits = next_fits in
        let k : length ws ≡ (header_at (buffer_named M tables boxes i)).length = length-take-le _ _ n.within in
        let q : M.least_buffer * (i + 1) ≡ M.least_buffer * i + M.least_buffer = rw (add-one i) (mul-suc M.least_buffer i) in
        let a : length (run_named M tables (drop i boxes)) ≡ length ws + length rest = ap length n.laid ∙ length-append ws rest in
        let within = n.within in
        let least = n.least in
        let behind = l.behind in
        let long = l.long in
        record {
          passed = omega arith;
          kept = ap length e ∙ length-replaced run end ws (omega arith) ∙ l.kept;
          behind = omega arith;
          whole = n.onward;
          long = omega arith;
          left = rw e (replaced_joined run end _ ws rest (omega arith) (omega arith) ∙ ap (replaced run end) (sym n.laid) ∙ l.left);
        }

-- ---- the merge of them

-- whether there is room, as the code asks it
module _ (M : Model) (p : 0 < M.least_buffer) (boxes run : List ℕ) where
  pub crowded : length run / M.least_buffer < length boxes → no_run_room M boxes run ≡ true
  unfolding no_run_room
  crowded h = lt-ltb (length run) (M.least_buffer * length boxes) (rw (mul_comm M.least_buffer (length boxes)) ((div-lt_iff_lt-mul p).0 h))

  pub room : length boxes ≤ length run / M.least_buffer → M.least_buffer * length boxes ≤ length run
  room h = rw (mul_comm M.least_buffer (length boxes)) ((le-div_iff_mul-le p).0 h)

  pub roomy : length boxes ≤ length run / M.least_buffer → no_run_room M boxes run ≡ false
  unfolding no_run_room
  roomy h = le-ltb (length run) (M.least_buffer * length boxes) (room h)

-- the part of a run that was laid
pub laid_within : (run ws after : List ℕ) → after ≡ replaced run 0 ws → length ws ≤ length after
laid_within run ws after e = rw (e, replaced_start run ws, length-append ws (drop (length ws) run)) (omega arith)

pub laid_part : (run ws after : List ℕ) → after ≡ replaced run 0 ws → take (length ws) after ≡ ws
laid_part run ws after e = rw (e, replaced_start run ws) (take-append_seam ws (drop (length ws) run))

nothing_runs : (M : Model) → run_tables M [] ≡ none
unfolding run_tables
nothing_runs M = ap one_or_more (images_none M)

module _ (M : Model) (tables boxes : List ℕ) (v : ℕ) (run out : List ℕ) where
  -- what the three promises say
  abbrev pub Together : ℕ → List ℕ → List ℕ → Type 0
  Together k after merged = (k ≡ merge_boxes_number M tables boxes v run out) × ((after ≡ merge_boxes_run M tables boxes run out) × (merged ≡ merge_boxes_output M tables boxes v run out))

  -- a merge that is refused writes nothing
  refused : (k : ℕ) → 0 < k → merge.call_number M (run_named M tables boxes) v out ≡ k → merge.call_output M (run_named M tables boxes) v out ≡ out
  refused k p e = merge_refused M (run_named M tables boxes) v out (λ z. omega (arith, sym e ∙ z))

  pub together_crowded : no_run_room M boxes run ≡ true → Together 1 run out
  unfolding merge_boxes_number merge_boxes_run merge_boxes_output either
  together_crowded e = rw e (refl, (refl, refl))

  module _ (fits : no_run_room M boxes run ≡ false) where
    pub together_small : length out < M.least_buffer → Together 1 run out
    unfolding merge_boxes_number merge_boxes_run merge_boxes_output too_small either
    together_small l =
        let small : too_small M (length out) ≡ true = lt-ltb (length out) M.least_buffer l in
        let e : merge.call_number M (run_named M tables boxes) v out ≡ 1 = merge_number_lem M (run_named M tables boxes) v out ∙ rw small in
        rw (fits, small) (sym e, (refl, sym (refused 1 (omega arith) e)))

    module _ (enough : M.least_buffer ≤ length out) where
      large : too_small M (length out) ≡ false
      unfolding too_small
      large = le-ltb (length out) M.least_buffer enough

      -- a box has no table
      pub together_bad : is_some (tables_named M tables boxes) ≡ false → Together 2 run out
      unfolding merge_boxes_number merge_boxes_run merge_boxes_output either run_named laid_out
      together_bad h =
          let n : run_named M tables boxes ≡ [] = ap (λ o. laid_out (or_none o)) (is_none (tables_named M tables boxes) h) in
          let e : merge.call_number M (run_named M tables boxes) v out ≡ 2 = merge_number_lem M (run_named M tables boxes) v out ∙ rw (large, n, nothing_runs M) in
          rw (fits, large) (sym e, (sym (ap (replaced run 0) n ∙ replaced_nothing run 0), sym (refused 2 (omega arith) e)))
        where
          is_none : (o : Option (List Table)) → is_some o ≡ false → o ≡ none
          is_none none e = refl
          is_none (some Ts) e = impossible refl e

      pub together_merged : (k : ℕ) (after merged : List ℕ) → after ≡ replaced run 0 (run_named M tables boxes) → k ≡ merge.call_number M (run_named M tables boxes) v out → merged ≡ merge.call_output M (run_named M tables boxes) v out → Together k after merged
      unfolding merge_boxes_number merge_boxes_run merge_boxes_output either
      together_merged k after merged a b c = rw (fits, large) (b, (a, c))
