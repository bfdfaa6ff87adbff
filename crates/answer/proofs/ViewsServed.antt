-- Messages 5 and 6, by what the header says.
use mathlib.Core.Path.{◌≡◌, refl, sym, ap, ◌∙◌}
use mathlib.Core.Bool.{true}
use mathlib.Core.List.{List}
use mathlib.Core.Logic.{◌⊎◌, inl, inr}
use Prim.Native.Nat.{ℕ, ◌≤◌, ◌<◌}
use borrow.Author.Tests.{lt-ltb, le-ltb, le-leb, lt-leb}
use Rattle.rules.specs.Tests.{either}
use Rattle.rules.specs.Tables.{valley, Table}
use Rattle.rules.specs.Messages.{Message.change_view, Message.start_view, promising, table_after}
use Rattle.rules.specs.Circumstances.{changes_to_old_view, starts_old_view}
use Rattle.std.specs.Prelude.{Ok, Err}
use Rattle.numbers.specs.declared.Refusal.TheVariants.{OldView}
use Rattle.rules.specs.Answers.{reply_from, state_byte, reply_stamp, reply_value}
use Rattle.table.specs.Headers.{header_at}
use Rattle.table.specs.Images.{format_one}
use Rattle.table.specs.Parse.{table_at}
use Rattle.edit.specs.Inner.Changes.{taking}
use Rattle.edit.specs.Inner.Holding.{Holds}
use Rattle.edit.specs.Edited.{edited}
use Rattle.table.specs.Inner.ChangedHeaders.{with_view}
use Rattle.transact.specs.Inner.DoneReplies.{done_reply}
use Rattle.transact.proofs.Serving.{number_5, number_6, Kept, kept_refused, kept_taken}

pub view_said : (s : List ℕ) → (table_at format_one s).view ≡ (header_at s).view
unfolding table_at
view_said s = refl

module _ (s : List ℕ) (v : ℕ) (holds : Holds format_one s) where
  pub change_refused : v ≤ (header_at s).promised → Kept valley (change_view v) s (Err OldView) s
  unfolding changes_to_old_view table_at
  change_refused old = kept_refused valley (change_view v) s OldView holds (number_5 valley (table_at format_one s) v ∙ rw (le-leb _ _ old))

  pub change_taken : (header_at s).promised < v →
      Kept valley (change_view v) s (Ok (done_reply (header_at s) 5 0 v 0)) (edited format_one (λ T. promising T v) s)
  unfolding changes_to_old_view table_at table_after reply_from state_byte reply_stamp reply_value
  change_taken new = kept_taken valley (change_view v) s (λ T. promising T v) (number_5 valley (table_at format_one s) v ∙ rw (lt-leb _ _ new)) refl

  module _ (I : Table) where
    pub below_promised : v < (header_at s).promised → starts_old_view (table_at format_one s) v ≡ true
    unfolding starts_old_view table_at either
    below_promised old = rw (lt-ltb _ _ old)

    pub at_or_below_view : (header_at s).promised ≤ v → v ≤ (header_at s).view → starts_old_view (table_at format_one s) v ≡ true
    unfolding starts_old_view table_at either
    at_or_below_view met old = rw (le-ltb _ _ met, le-leb _ _ old)

    pub start_refused : (v < (header_at s).promised) ⊎ (((header_at s).promised ≤ v) × (v ≤ (header_at s).view)) → Kept valley (start_view v I) s (Err OldView) s
    unfolding starts_old_view table_at either
    start_refused (inl below) = kept_refused valley (start_view v I) s OldView holds (number_6 valley (table_at format_one s) v I ∙ rw (lt-ltb _ _ below))
    start_refused (inr (met, old)) = kept_refused valley (start_view v I) s OldView holds (number_6 valley (table_at format_one s) v I ∙ rw (le-ltb _ _ met, le-leb _ _ old))

    pub start_taken : (header_at s).promised ≤ v → (header_at s).view < v → I.view ≡ v →
        Kept valley (start_view v I) s (Ok (done_reply (with_view (header_at s) v) 6 0 0 0)) (edited format_one (taking I) s)
    unfolding starts_old_view table_at table_after reply_from state_byte reply_stamp reply_value either
    start_taken met new is =
        let (tells, buffer) = kept_taken valley (start_view v I) s (taking I) (number_6 valley (table_at format_one s) v I ∙ rw (le-ltb _ _ met, lt-leb _ _ new)) refl in
        ((ap (λ w. done_reply (with_view (header_at s) w) 6 0 0 0) (sym is) ∙ tells.0, tells.1), buffer)
