-- Message 7, by what the header says and what the walk found.
use mathlib.Core.Path.{◌≡◌, refl, sym, ◌∙◌}
use mathlib.Core.List.{List}
use mathlib.Core.Bool.{true, false}
use mathlib.Core.Logic.{◌⊎◌, inl, inr}
use Prim.Native.Nat.{ℕ}
use Rattle.std.specs.Prelude.{Ok, Err}
use Rattle.numbers.specs.declared.Refusal.TheVariants.{Changing}
use Rattle.rules.proofs.Logic.{cases}
use Rattle.rules.specs.Tables.{Model}
use Rattle.rules.specs.Messages.{Message.read_register, found, table_after}
use Rattle.rules.specs.Circumstances.{is_changing}
use Rattle.rules.specs.Answers.{reply_from, state_byte, reply_stamp, reply_value}
use Rattle.rows.specs.Read.{rows_at}
use Rattle.table.specs.Headers.{header_at}
use Rattle.table.specs.Images.{format_one}
use Rattle.table.specs.Parse.{table_at}
use Rattle.edit.specs.Inner.Holding.{Holds}
use Rattle.edit.proofs.EditedBuffers.{edited_same}
use Rattle.transact.specs.Inner.DoneReplies.{done_reply}
use Rattle.transact.specs.Inner.Served.{served_buffer}
use Rattle.transact.proofs.Serving.{number_7, Kept, kept_refused, kept_taken}

module _ (M : Model) (s : List ℕ) (stamp k : ℕ) (holds : Holds format_one s) where
  pub read_refused : is_changing (table_at format_one s) ≡ true → Kept M (read_register stamp k) s (Err Changing) s
  read_refused e = kept_refused M (read_register stamp k) s Changing holds (number_7 M (table_at format_one s) stamp k ∙ rw e)

  -- nothing is changed
  pub read_taken : is_changing (table_at format_one s) ≡ false → Kept M (read_register stamp k) s (Ok (done_reply (header_at s) 7 0 (found (rows_at s 24 (header_at s).rows) stamp k).version (found (rows_at s 24 (header_at s).rows) stamp k).value)) s
  unfolding table_after reply_from state_byte reply_stamp reply_value table_at
  read_taken normal =
      let (reply, buffer) = kept_taken M (read_register stamp k) s (λ T. T) (number_7 M (table_at format_one s) stamp k ∙ rw normal) refl in
      (reply, sym (edited_same format_one (λ T. T) s holds refl) ∙ buffer)

  pub read_keeps : s ≡ served_buffer M (read_register stamp k) s
  read_keeps = go (cases (is_changing (table_at format_one s)))
    where
      go : (is_changing (table_at format_one s) ≡ true) ⊎ (is_changing (table_at format_one s) ≡ false) → s ≡ served_buffer M (read_register stamp k) s
      go (inl e) = (read_refused e).1
      go (inr e) = (read_taken e).1
