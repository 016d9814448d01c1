-- The records of a file: how many, how wide, where each stands, and that a file in the front of a buffer has the buffer's. Assumes nothing.
use mathlib.Core.Path.{◌≡◌, refl, ap, sym, ◌∙◌}
use mathlib.Core.List.{List, [], ◌∷◌, ◌++◌}
use Prim.Native.Nat.{ℕ, zero, suc, ◌+◌, ◌-◌, ◌*◌, ◌/◌, ◌≤◌, ◌<◌}
use native.Mathlib.Nat.{add-sub_cancel_left, mul-suc, mul-zero, add_comm}
use native.Mathlib.Omega.{arith}
use lib.ListN.{length, take, drop, get_or, length-drop, take-append-drop, get_or-eq_default}
use lib.Seq.{drop-drop, length-take-le, take-append-le, drop-append-le}
use Rattle.format.specs.Basics.{chunks}
use Rattle.format.proofs.Lists.{Wide}
use Rattle.files.specs.declared.Stride.{Stride}
use Rattle.files.specs.declared.Stride.TheVariants.{Plain, Lines}
use Rattle.files.specs.Records.{stride_of, spaced, records_of}

-- ---- the stride
pub stride_plain : (stride : Stride) → stride ≡ Plain → 84 ≡ stride_of stride
unfolding stride_of
stride_plain stride e = rw e

pub stride_lines : (stride : Stride) → stride ≡ Lines → 86 ≡ stride_of stride
unfolding stride_of
stride_lines stride e = rw e

-- ---- so many records, at any stride
module _ (stride : ℕ) where
  pub length-spaced : (n : ℕ) (bs : List ℕ) → length (spaced stride n bs) ≡ n
  length-spaced zero bs = refl
  length-spaced (suc n) bs = ap suc (length-spaced n (drop stride bs))

  pub get_or-spaced : (n : ℕ) (bs : List ℕ) (k : ℕ) → k < n → get_or (spaced stride n bs) k [] ≡ take 84 (drop (stride * k) bs)
  get_or-spaced zero bs k h = absurd (omega arith)
  get_or-spaced (suc n) bs zero h = ap (λ (i : ℕ). take 84 (drop i bs)) (sym (mul-zero stride))
  get_or-spaced (suc n) bs (suc k) h = get_or-spaced n (drop stride bs) k (omega arith) ∙ ap (take 84) (drop-drop (stride * k) stride bs ∙ ap (λ (i : ℕ). drop i bs) (add_comm stride (stride * k) ∙ sym (mul-suc stride k)))

pub chunks-spaced : (n : ℕ) (bs : List ℕ) → spaced 84 n bs ≡ chunks n bs
chunks-spaced zero bs = refl
chunks-spaced (suc n) bs = ap (λ (rs : List (List ℕ)). take 84 bs ∷ rs) (chunks-spaced n (drop 84 bs))

-- ---- those of a file
pub plain-records : (file : List ℕ) → records_of Plain file ≡ chunks (length file / 84) file
unfolding records_of stride_of
plain-records file = chunks-spaced (length file / 84) file

module _ (stride : Stride) (file : List ℕ) where
  pub length-records : length (records_of stride file) ≡ length file / stride_of stride
  unfolding records_of
  length-records = length-spaced (stride_of stride) (length file / stride_of stride) file

  -- as the code counts them
  pub count-plain : stride ≡ Plain → length file / 84 ≡ length (records_of stride file)
  unfolding stride_of
  count-plain e = sym (length-records ∙ ap (λ (s : Stride). length file / stride_of s) e)

  pub count-lines : stride ≡ Lines → length file / 86 ≡ length (records_of stride file)
  unfolding stride_of
  count-lines e = sym (length-records ∙ ap (λ (s : Stride). length file / stride_of s) e)

  pub no_record : (n k : ℕ) → n ≡ length (records_of stride file) → n ≤ k → [] ≡ get_or (records_of stride file) k []
  no_record n k e h = sym (get_or-eq_default (records_of stride file) [] (omega arith))

-- a record lies inside the file
pub record_inside : (stride : Stride) (file : List ℕ) (k : ℕ) → k < length (records_of stride file) → stride_of stride * k + 84 ≤ length file
unfolding stride_of
record_inside Plain file k h = omega (arith, h, length-records Plain file)
record_inside Lines file k h = omega (arith, h, length-records Lines file)

module _ (stride : Stride) (file : List ℕ) (k : ℕ) (there : k < length (records_of stride file)) where
  pub record_is : get_or (records_of stride file) k [] ≡ take 84 (drop (stride_of stride * k) file)
  unfolding records_of
  record_is = get_or-spaced (stride_of stride) (length file / stride_of stride) file k (rw (length-records stride file) at there)

  pub record_wide : length (get_or (records_of stride file) k []) ≡ 84
  record_wide = ap length record_is ∙ length-take-le 84 (drop (stride_of stride * k) file) (rw (length-drop (stride_of stride * k) file) (omega (arith, record_inside stride file k there)))

-- as the code reads it: so many records are counted, and each starts so many bytes behind the one before it
module _ (stride : Stride) (file : List ℕ) (k n : ℕ) (counted : n ≡ length (records_of stride file)) (there : k < n) (each : ℕ) (is : each ≡ stride_of stride) where
  pub record_end : each * k + 84 ≤ length file
  record_end = rw is (record_inside stride file k (omega (arith, counted)))

  pub record_read : take (each * k + 84 - each * k) (drop (each * k) file) ≡ get_or (records_of stride file) k []
  record_read = rw (add-sub_cancel_left (each * k) 84, is) (sym (record_is stride file k (omega (arith, counted))))

-- every record has 84 bytes
pub wide_each : (rs : List (List ℕ)) → ((k : ℕ) → k < length rs → length (get_or rs k []) ≡ 84) → Wide rs
unfolding Wide
wide_each [] each = tt
wide_each (r ∷ rs) each = (each 0 (omega arith), wide_each rs (λ k h. each (suc k) (omega arith)))

pub wide_records : (stride : Stride) (file : List ℕ) → Wide (records_of stride file)
wide_records stride file = wide_each (records_of stride file) (λ k h. record_wide stride file k h)

-- ---- the file in the front of a buffer
chunks-front : (n : ℕ) (front rest : List ℕ) → 84 * n ≤ length front → chunks n front ≡ chunks n (front ++ rest)
chunks-front zero front rest h = refl
chunks-front (suc n) front rest h =
    let long : 84 ≤ length front = omega arith in
    rw (take-append-le 84 front rest long, drop-append-le 84 front rest long) (ap (λ (rs : List (List ℕ)). take 84 front ∷ rs) (chunks-front n (drop 84 front) rest (rw (length-drop 84 front) (omega arith))))

pub front-records : (used : ℕ) (buffer : List ℕ) → used ≤ length buffer → records_of Plain (take used buffer) ≡ chunks (used / 84) buffer
front-records used buffer h = plain-records (take used buffer) ∙ ap (λ (n : ℕ). chunks (n / 84) (take used buffer)) long ∙ chunks-front (used / 84) (take used buffer) (drop used buffer) (rw long (omega arith)) ∙ ap (chunks (used / 84)) (take-append-drop used buffer)
  where
    long : length (take used buffer) ≡ used
    long = length-take-le used buffer h
