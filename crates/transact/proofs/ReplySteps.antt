-- The fields of a reply put one after the other.
use mathlib.Core.Path.{◌≡◌}
use mathlib.Core.List.{List, ◌++◌, append_assoc}
use Prim.Native.Nat.{ℕ, ◌≤◌}
use native.Mathlib.Omega.{arith}
use lib.ListN.{length, length-append}
use Rattle.wire.specs.Parts.{replaced}
use Rattle.wire.specs.Numbers.{bytes}
use Rattle.wire.proofs.Parts.{replaced_joined}
use Rattle.wire.proofs.Numbers.{length_bytes}
use Rattle.transact.specs.declared.reply.Reply.{Reply}
use Rattle.transact.specs.Replies.{reply_bytes}

pub reply_steps : (s : List ℕ) (r : Reply) → 24 ≤ length s →
    let single = bytes 1 r.number ++ (bytes 1 r.kind ++ (bytes 1 r.boxnumber ++ bytes 1 r.state)) in
    replaced (replaced (replaced (replaced s 0 single) 4 (bytes 4 r.view)) 8 (bytes 8 r.stamp)) 16 (bytes 8 r.value) ≡ replaced s 0 (reply_bytes r)
unfolding reply_bytes
reply_steps s r l =
    let a : List ℕ = bytes 1 r.number ++ (bytes 1 r.kind ++ (bytes 1 r.boxnumber ++ bytes 1 r.state)) in
    let b : List ℕ = a ++ bytes 4 r.view in
    let d : List ℕ = b ++ bytes 8 r.stamp in
    rw (
      replaced_joined s 0 4 a (bytes 4 r.view) (omega arith) (simp (length-append, length_bytes)),
      replaced_joined s 0 8 b (bytes 8 r.stamp) (omega arith) (simp (length-append, length_bytes)),
      replaced_joined s 0 16 d (bytes 8 r.value) (omega arith) (simp (length-append, length_bytes)),
    )
    (simp append_assoc)

pub length_reply : (r : Reply) → length (reply_bytes r) ≡ 24
unfolding reply_bytes
length_reply r = simp (length-append, length_bytes)
