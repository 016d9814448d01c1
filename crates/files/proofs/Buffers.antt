-- `put_at`: bytes put at a place of a buffer, one after the other. Assumes nothing.
use mathlib.Core.Path.{◌≡◌, ap, ap₂, sym, ◌∙◌}
use mathlib.Core.List.{List, ◌++◌, append_assoc}
use Prim.Native.Nat.{ℕ, ◌+◌, ◌-◌, ◌≤◌, ◌<◌}
use native.Mathlib.Omega.{arith}
use borrow.Author.Tests.{le-leb, lt-leb}
use lib.ListN.{length, length-append, length-drop, take, drop}
use lib.Seq.{take-length, take_at, drop_at, drop-drop}
use Rattle.format.specs.Layout.{splice}
use Rattle.files.specs.Buffers.{put_at}

module _ (buffer : List ℕ) (at : ℕ) (bytes : List ℕ) where
  -- where they have room
  pub put-there : at + length bytes ≤ length buffer → put_at buffer at bytes ≡ take at buffer ++ (bytes ++ drop (at + length bytes) buffer)
  unfolding put_at splice
  put-there room = rw (le-leb (at + length bytes) (length buffer) room)

  pub all-put : at + length bytes ≤ length buffer → (i : ℕ) → i ≤ length bytes → length bytes ≤ i → (b : List ℕ) → b ≡ (take at buffer ++ take i bytes) ++ drop (at + i) buffer → b ≡ put_at buffer at bytes
  all-put room i h k b e =
      let n : i ≡ length bytes = omega arith in
      (rw (n, take-length bytes) at e) ∙ append_assoc (take at buffer) bytes (drop (at + length bytes) buffer) ∙ sym (put-there room)

  -- where they have none
  no_room : length buffer < at + length bytes → buffer ≡ put_at buffer at bytes
  unfolding put_at
  no_room h = rw (lt-leb (at + length bytes) (length buffer) h)

  pub starts_behind : length buffer < at → buffer ≡ put_at buffer at bytes
  starts_behind h = no_room (omega arith)

  pub ends_behind : at ≤ length buffer → length buffer - at < length bytes → buffer ≡ put_at buffer at bytes
  ends_behind h k = no_room (omega arith)

-- ---- some bytes stand in front in a target, and behind them what stood there; more are put behind them
module _ (front part target target₀ : List ℕ) (at : ℕ) (so_far : target ≡ front ++ drop at target₀) (long : length front ≡ at) (room : at + length part ≤ length target₀) where
  same_length : length target ≡ length target₀
  same_length = ap length so_far ∙ length-append front (drop at target₀) ∙ rw (length-drop at target₀) (omega arith)

  pub put-behind : put_at target at part ≡ (front ++ part) ++ drop (at + length part) target₀
  put-behind =
      put-there target at part (omega (arith, same_length))
      ∙ ap₂ (λ (x y : List ℕ). x ++ (part ++ y)) (ap (take at) so_far ∙ take_at front (drop at target₀) at long) rest
      ∙ sym (append_assoc front part (drop (at + length part) target₀))
    where
      rest : drop (at + length part) target ≡ drop (at + length part) target₀
      rest = sym (drop-drop (length part) at target) ∙ ap (drop (length part)) (ap (drop at) so_far ∙ drop_at front (drop at target₀) at long) ∙ drop-drop (length part) at target₀
