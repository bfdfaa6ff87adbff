-- The output buffer from the rows as they were written to the merged table.
use mathlib.Core.Path.{◌≡◌, refl, sym, ap, ◌∙◌}
use mathlib.Core.Bool.{true, false}
use mathlib.Core.List.{List}
use Prim.Native.Nat.{ℕ, ◌+◌, ◌*◌, ◌%◌, ◌≤◌, ◌<◌, ◌^◌}
use native.Mathlib.Omega.{arith}
use lib.ListN.{length, drop}
use Rattle.wire.specs.Parts.{replaced}
use Rattle.wire.specs.Inner.ByteLists.{AllBytes}
use Rattle.wire.proofs.Parts.{replaced_start, replaced_over}
use Rattle.rules.specs.Tests.{every}
use Rattle.rules.specs.Groups.{f_of, agreement_count}
use Rattle.rules.specs.Tables.{Row, Table, valley, normal_mode, rising}
use Rattle.rules.specs.Messages.{with_rows}
use Rattle.rules.specs.Check.{check}
use Rattle.rules.specs.Merge.{used, stamps, group_of, unchecked_rows, merged_rows, merged_table}
use Rattle.rows.specs.Bytes.{bodies_length}
use Rattle.rows.specs.Read.{begins}
use Rattle.rows.proofs.Begins.{begins_with, begins_stands}
use Rattle.table.specs.declared.header.Header.{Header}
use Rattle.table.specs.Headers.{header_at, header_bytes}
use Rattle.table.specs.Images.{format_one, image_length, header_of, image}
use Rattle.table.specs.Parse.{table_at}
use Rattle.table.proofs.Images.{length_image, image_among}
use Rattle.edit.specs.Inner.Holding.{Holds}
use Rattle.edit.specs.Edited.{edited}
use Rattle.edit.proofs.Holding.{one_starts, holds_rows}
use Rattle.edit.proofs.EditedBuffers.{edited_grown}
use Rattle.image_run.specs.Inner.WholeRuns.{tables_of, Images}
use Rattle.image_run.proofs.Wrongs.{group_read, group_some}
use Rattle.gather.specs.Inner.UsedTables.{used_of}
use Rattle.gather.proofs.Gathered.{all_regular}
use Rattle.gather.proofs.NextStamps.{AllRegular, used_regular, stamps_stamped, stamps_from_one}
use Rattle.settle.specs.Inner.Turns.{has_stamp, checked_rows}
use Rattle.settle.proofs.ChecksInTurn.{Kept, kept_image, checked_keep, merged_in_turn, unchecked_rising, unchecked_stamped, unchecked_length}
use Rattle.merge.specs.Inner.Written.{laid_down, MarkAgreed, start_header}
use Rattle.merge.proofs.RowsLaid.{laid_image}
use Rattle.merge.proofs.RowsWritten.{bodies_all}

-- a table over the start of a buffer is what the buffer holds
module _ (out s : List ℕ) (T : Table) (is : s ≡ replaced out 0 (image format_one T)) (bytes : AllBytes s) where
  begins_so : begins s (image format_one T) ≡ true
  begins_so = rw (is, replaced_start out (image format_one T)) (begins_with (image format_one T) (drop (length (image format_one T)) out))

  table_is : table_at format_one s ≡ T
  table_is = image_among format_one s T one_starts bytes (begins_stands s 0 (image format_one T) begins_so)

  holds_so : Holds format_one s
  holds_so = rw table_is begins_so

  -- a change of it that gives nothing up
  changed_over : (change : Table → Table) (U : Table) → change T ≡ U → image_length format_one T ≤ image_length format_one U → edited format_one change s ≡ replaced out 0 (image format_one U)
  changed_over change U f l =
      let c : change (table_at format_one s) ≡ U = ap change table_is ∙ f in
      let g = edited_grown format_one change s (rw (c, table_is) l) in
      let a = length_image format_one T one_starts in
      let b = length_image format_one U one_starts in
      g ∙ ap (λ W. replaced s 0 (image format_one W)) c ∙ ap (λ z. replaced z 0 (image format_one U)) is ∙ replaced_over out (image format_one T) (image format_one U) (omega arith)

-- what a turn of checks asks of the buffer
abbrev pub Ready : List ℕ → Type 0
Ready s = Holds format_one s × (rising 0 (table_at format_one s).rows ≡ true) × (every has_stamp (table_at format_one s).rows ≡ true) × ((header_at s).rows ≤ 512)

ready : (out s : List ℕ) (T : Table) → s ≡ replaced out 0 (image format_one T) → AllBytes s → rising 0 T.rows ≡ true → every has_stamp T.rows ≡ true → length T.rows ≤ 512 → Ready s
ready out s T is bytes rise stamped few =
    let e : (table_at format_one s).rows ≡ T.rows = ap (λ (X : Table). X.rows) (table_is out s T is bytes) in
    let n : (header_at s).rows ≡ length T.rows = sym (holds_rows format_one s) ∙ ap length e in
    (holds_so out s T is bytes, rw e rise, rw e stamped, rw n few)

-- ---- the three buffers after the writes

-- a table of these rows that starts view v in a group of n
abbrev pub starting : ℕ → ℕ → List Row → Table
starting n v rows = record { box = v % n; n = n; mode = normal_mode; view = v; promised = v; start = length rows; rows = rows }

-- the rows as they were written, with the header before them
pub header_laid : (Us : List Table) (agreement n v rows length_told : ℕ) (out written : List ℕ) → 24 + 24 * rows ≤ length out → rows ≡ length (stamps Us) → written ≡ laid_down out (24 + 24 * rows) (unchecked_rows agreement Us) → length_told ≡ 24 + 24 * rows + bodies_length (unchecked_rows agreement Us) → replaced written 0 (header_bytes (start_header n v rows length_told)) ≡ replaced out 0 (image format_one (starting n v (unchecked_rows agreement Us)))
header_laid Us agreement n v rows length_told out written long counted is ends =
    let T : Table = starting n v (unchecked_rows agreement Us) in
    let c : rows ≡ length (unchecked_rows agreement Us) = counted ∙ sym (unchecked_length agreement Us) in
    let h : start_header n v rows length_told ≡ header_of format_one T = rw (ends, c) refl in
    rw (h, is) (laid_image out (24 + 24 * rows) T (ap (λ k. 24 + 24 * k) c) long)

module _ (Us : List Table) (all : AllRegular Us) (agreement n v : ℕ) (out first : List ℕ) (few : length (stamps Us) ≤ 512) (first_is : first ≡ replaced out 0 (image format_one (starting n v (unchecked_rows agreement Us)))) (bytes : AllBytes first) where
  abbrev table₀ : Table
  table₀ = starting n v (unchecked_rows agreement Us)

  rise₀ : rising 0 (unchecked_rows agreement Us) ≡ true
  rise₀ = unchecked_rising agreement Us (stamps_from_one Us all)

  stamped₀ : every has_stamp (unchecked_rows agreement Us) ≡ true
  stamped₀ = unchecked_stamped agreement Us (stamps_stamped Us all)

  pub first_ready : Ready first
  first_ready = ready out first table₀ first_is bytes rise₀ stamped₀ (rw (unchecked_length agreement Us) few)

  -- the agreed ones checked
  module _ (marks : List ℕ) (second : List ℕ) (then : second ≡ edited format_one (λ T. with_rows T (checked_rows false marks T.rows)) first) (bytes₂ : AllBytes second) where
    abbrev agreed_rows : List Row
    agreed_rows = checked_rows false marks (unchecked_rows agreement Us)

    kept : Kept agreed_rows (unchecked_rows agreement Us)
    kept = checked_keep false marks (unchecked_rows agreement Us)

    second_is : second ≡ replaced out 0 (image format_one (with_rows table₀ agreed_rows))
    second_is = then ∙ changed_over out first table₀ first_is bytes (λ T. with_rows T (checked_rows false marks T.rows)) (with_rows table₀ agreed_rows) refl (let l = kept_image agreed_rows (unchecked_rows agreement Us) kept table₀ in omega arith)

    pub second_ready : Ready second
    second_ready = ready out second (with_rows table₀ agreed_rows) second_is bytes₂ (kept.rise 0 ∙ rise₀) (kept.stamped ∙ stamped₀) (rw (kept.count, unchecked_length agreement Us) few)

    -- then the open ones: the merged rows
    pub last_is : MarkAgreed marks agreement Us → (last : List ℕ) → last ≡ edited format_one (λ T. with_rows T (checked_rows true marks T.rows)) second → last ≡ replaced out 0 (image format_one (starting n v (merged_rows check agreement Us)))
    last_is told last e =
        let again = checked_keep true marks agreed_rows in
        let l = kept_image (checked_rows true marks agreed_rows) agreed_rows again table₀ in
        let m : checked_rows true marks agreed_rows ≡ merged_rows check agreement Us = sym (merged_in_turn marks agreement Us all told) in
        let c : length (unchecked_rows agreement Us) ≡ length (checked_rows true marks agreed_rows) = sym (again.count ∙ kept.count) in
        e
        ∙ changed_over out second (with_rows table₀ agreed_rows) second_is bytes₂ (λ T. with_rows T (checked_rows true marks T.rows)) (with_rows table₀ (checked_rows true marks agreed_rows)) refl (omega arith)
        ∙ ap (λ k. replaced out 0 (image format_one (record { box = table₀.box; n = n; mode = table₀.mode; view = v; promised = v; start = k; rows = checked_rows true marks agreed_rows }))) c
        ∙ ap (λ rows. replaced out 0 (image format_one (starting n v rows))) m

-- ---- the merged table

pub merged_is : (v : ℕ) (Ts : List Table) (n : ℕ) → n ≡ group_of Ts → starting n v (merged_rows check (agreement_count (f_of n)) (used Ts)) ≡ merged_table check v Ts
unfolding merged_table
merged_is v Ts n e = rw e refl

-- ---- the same by what each step of the code promises

-- a run of images and a buffer with room for the merge of those that are used
module _ (run out : List ℕ) (images : Images valley run) (some-bytes : 0 < length run) (newest v rows : ℕ) (used-are : used_of newest (tables_of valley run) ≡ used (tables_of valley run)) (told : rows ≡ length (stamps (used (tables_of valley run)))) (few : rows ≤ 512) where
  regular : AllRegular (used_of newest (tables_of valley run))
  regular = used_regular _ _ (all_regular run images)

  pub counted : rows ≡ length (stamps (used_of newest (tables_of valley run)))
  counted = rw used-are told

  few_stamps : length (stamps (used_of newest (tables_of valley run))) ≤ 512
  few_stamps = rw counted at few

  -- its header, and the agreement count of its group
  module _ (head : Header) (head-is : head ≡ header_at run) (agreement : ℕ) where
    pub in_group : 0 < head.n
    in_group = rw head-is (group_some run some-bytes images)

    -- the rows as they were written
    module _ (end : ℕ) (end-is : end ≡ 24 + 24 * rows + bodies_length (unchecked_rows agreement (used_of newest (tables_of valley run)))) where
      pub end_fits : end < 2 ^ 32
      end_fits = let b = bodies_all agreement _ regular in let c = counted in omega arith

      -- with the header of the merged table before them
      module _ (room : 49176 ≤ length out) (written : List ℕ) (laid : written ≡ laid_down out (24 + 24 * rows) (unchecked_rows agreement (used_of newest (tables_of valley run)))) (h : Header) (h-is : h ≡ start_header head.n v rows end) (first : List ℕ) (first-is : first ≡ replaced written 0 (header_bytes h)) (bytes : AllBytes first) where
        first_laid : first ≡ replaced out 0 (image format_one (starting head.n v (unchecked_rows agreement (used_of newest (tables_of valley run)))))
        first_laid = first-is ∙ rw h-is (header_laid (used_of newest (tables_of valley run)) agreement head.n v rows end out written (omega arith) counted laid end-is)

        pub ready_for_agreed : Ready first
        ready_for_agreed = first_ready _ regular agreement head.n v out first few_stamps first_laid bytes

        -- the agreed ones checked
        module _ (marks second : List ℕ) (second-is : second ≡ edited format_one (λ T. with_rows T (checked_rows false marks T.rows)) first) (bytes₂ : AllBytes second) where
          pub ready_for_open : Ready second
          ready_for_open = second_ready _ regular agreement head.n v out first few_stamps first_laid bytes marks second second-is bytes₂

          -- and the open ones
          pub merged_written : agreement ≡ agreement_count (f_of head.n) → MarkAgreed marks agreement (used_of newest (tables_of valley run)) → (last : List ℕ) → last ≡ edited format_one (λ T. with_rows T (checked_rows true marks T.rows)) second → last ≡ replaced out 0 (image format_one (merged_table check v (tables_of valley run)))
          merged_written agreed-is marked last last-is' =
              let group : head.n ≡ group_of (tables_of valley run) = ap (λ (h : Header). h.n) head-is ∙ sym (group_read run some-bytes images) in
              let merged : starting head.n v (merged_rows check agreement (used_of newest (tables_of valley run))) ≡ merged_table check v (tables_of valley run) = rw (agreed-is, used-are) (merged_is v (tables_of valley run) head.n group) in
              last_is _ regular agreement head.n v out first few_stamps first_laid bytes marks second second-is bytes₂ marked last last-is' ∙ ap (λ T. replaced out 0 (image format_one T)) merged
