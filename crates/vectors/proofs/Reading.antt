-- Several reads into one buffer: what then stands at its start is what the reader gave. Assumes nothing.
use Rattle.std.proofs.Common.{◌≡◌, ℕ, ◌+◌, ◌-◌, ◌≤◌, ◌<◌, List, ◌++◌, Option, None, Some, arith, sym, ap, ◌∙◌, subst, le_refl, length, take, drop, length-take-le, drop_at, min, ap₂, ◌⊎◌, inl, inr}
use Rattle.std.proofs.Math.Nat.{min-eq_left, min-eq_right, eq-or-lt_of_le}
use Rattle.std.proofs.lemmas.Slice.{take-put_mid_below}
use Rattle.std.specs.Io.KnownBytes.{Consumes, IsAtEnd}
use Rattle.std.proofs.KnownBytes.{Consumes-trans}
use borrow.Rule.Slice.PartMut.{put_mid, post_of}
use lib.ListN.{length-append}
use lib.Seq.{take-add, take-append-le, take_at}
use Rattle.vectors.specs.Cases.{ReadFull}

-- as many as the buffer holds, and fewer only where the reader is at its end
pub as-many : (before after : Option (List ℕ)) (buffer : List ℕ) (n : ℕ) → n ≤ length buffer → Consumes before after (take n buffer) → (n < length buffer → IsAtEnd after) → ReadFull before after buffer n
as-many None after buffer n fits gave end = tt
as-many (Some bytes) None buffer n fits gave end = absurd gave
as-many (Some bytes) (Some rest) buffer n fits gave end =
    let wide : length (take n buffer) ≡ n = length-take-le n buffer fits in
    let long : length bytes ≡ n + length rest = ap length gave ∙ length-append (take n buffer) rest ∙ ap (λ (k : ℕ). k + length rest) wide in
    (count (eq-or-lt_of_le fits) long, sym (ap (take n) gave ∙ take_at (take n buffer) rest n wide), ap Some (sym (ap (drop n) gave ∙ drop_at (take n buffer) rest n wide)))
  where
    count : (n ≡ length buffer) ⊎ (n < length buffer) → length bytes ≡ n + length rest → n ≡ min (length buffer) (length bytes)
    count (inl e) long = e ∙ sym (min-eq_left (omega (arith, e, long)))
    count (inr h) long = let same : length bytes ≡ n = omega (arith, long, ap length (end h)) in sym (ap (min (length buffer)) same ∙ min-eq_right fits)

-- n bytes more
pub read-more : (first before after : Option (List ℕ)) (buffer part : List ℕ) (done n : ℕ) → done ≤ length buffer → n ≤ length part → Consumes first before (take done buffer) → Consumes before after (take n part)
    → Consumes first after (take (done + n) (put_mid done (length buffer - done) buffer part))
read-more first before after buffer part done n within fits gave more =
    let room = length buffer - done in
    let front : take done (put_mid done room buffer part) ≡ take done buffer = take-put_mid_below _ _ _ _ _ (le_refl _) within in
    let behind : take n (drop done (put_mid done room buffer part)) ≡ take n part =
    ap (take n) (drop_at (take done buffer) (part ++ post_of done room buffer) done (length-take-le done buffer within)) ∙ take-append-le n part (post_of done room buffer) fits in
    let joined : take (done + n) (put_mid done room buffer part) ≡ take done buffer ++ take n part = take-add done n (put_mid done room buffer part) ∙ ap₂ (λ (x y : List ℕ). x ++ y) front behind in
    subst (Consumes _ _) (sym joined) (Consumes-trans _ _ _ _ _ gave more)
