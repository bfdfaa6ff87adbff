-- What was sent and answered in bytes, and in the group that the bytes say.
use mathlib.Core.Path.{◌≡◌, sym, ap}
use mathlib.Core.List.Memᴰ
use mathlib.Core.List.{List}
use mathlib.Core.Option.{Option, none, some}
use Prim.Native.Nat.{ℕ}
use Rattle.rules.specs.Tables.{Model}
use Rattle.rules.specs.Messages.{Message, kind}
use Rattle.history.specs.Survival as history
use Rattle.group.specs.Said.{message_in, reply_in}
use Rattle.group.specs.Inner.StandIns.{or_no_message, said}
use Rattle.group.specs.Acts.{GroupInBuffers}
use Rattle.group.specs.Rules.{Says, WasSent, Gave}
use Rattle.group.proofs.Reading.{sent_as, answered_as, reading}

-- a message of any other kind than 7 in the history was said by bytes
said_by_lem : (o : Option Message) (m : Message) → or_no_message o ≡ m → (kind m ≡ 7 → ⊥) → o ≡ some m
said_by_lem none m e other = absurd (other (ap kind (sym e)))
said_by_lem (some q) m e other = ap some e

module _ (M : Model) (B : GroupInBuffers) where
  pub says : (bytes : List ℕ) (m : Message) → said M B.n bytes ≡ m → (kind m ≡ 7 → ⊥) → Says M B bytes m
  says bytes m e other = said_by_lem (message_in M B.n bytes) m e other

  pub sent_said : {m : Message} → WasSent M B m → history.WasSent (reading M B) m
  sent_said (b, bytes, i, is) = (b, rw is at (Memᴰ.map (sent_as M B.n) i))

  pub said_sent : (m : Message) → (kind m ≡ 7 → ⊥) → history.WasSent (reading M B) m → WasSent M B m
  said_sent m other (b, i) = let (x, j, e) = Memᴰ.of_map (sent_as M B.n) B.sent i in (x.box, x.message, j, says x.message m (ap (λ y. y.message) e) other)

  pub gave_said : {b : ℕ} {bytes reply : List ℕ} {m : Message} → Gave M B b bytes reply → Says M B bytes m → history.Gave (reading M B) b m (reply_in reply)
  gave_said (given, numbered) is = (rw is at (Memᴰ.map (answered_as M B.n) given), numbered)
