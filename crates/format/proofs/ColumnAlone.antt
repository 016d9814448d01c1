-- A column read or written alone: which answer for exactly which bytes and numbers. Assumes nothing.
use mathlib.Core.Path.{◌≡◌, refl, ap, ◌∙◌}
use mathlib.Core.Bool.{Bool, true, false, cond, ◌&&◌}
use mathlib.Core.Logic.{◌⊎◌, inl, inr, ◌↔◌}
use mathlib.Core.List.{List, ◌++◌}
use Prim.Native.Nat.{ℕ, zero, suc, ◌+◌, ◌-◌, ◌^◌, ◌≤◌, ◌<◌}
use Prim.Native.String.{String}
use native.Mathlib.Omega.{arith}
use borrow.Author.Tests.{leb-true, leb-false, ltb-true, ltb-false}
use lib.Dec.{leb, ltb}
use lib.ListN.{length, replicate, length-append, length-replicate}
use lib.Seq.{take_all}
use lib.IntN.{ℤ, pos, negsuc, nat_abs}
use Rattle.format.specs.declared.Column.{Column}
use Rattle.format.specs.declared.Column.TheVariants.{Value, MinusZero, Malformed}
use Rattle.format.specs.Basics.{given, refused, Outcome}
use Rattle.format.specs.Column.{column_of, digits_in, digits, text_of, fits, written, width_ok, column_answer, read_alone, write_alone}
use Rattle.format.specs.Shape.{Digits, MinusZeros, Says, Shapeless, Shortest, InWrittenForm, RightWidth, WrongWidth, TooLarge, WrittenAlone}
use Rattle.format.specs.Layout.{Col, find, bytes_of}
use Rattle.format.specs.Record.{rewrite}
use Rattle.format.proofs.Columns.{Means, column-own, length-written, digits_mean, short, digits-below, pow-up}
use Rattle.format.proofs.ColumnFits.{fits_plus, fits-minus, fits-size}
use Rattle.format.proofs.ColumnMeaning.{numbered, is_number_lem, left_means, value_exactly, minus_zero_exactly, malformed_exactly}

-- ---- the width
data Width (w : ℕ) : Type 0 where
  right : width_ok w ≡ true → RightWidth w → Width w
  wrong : width_ok w ≡ false → WrongWidth w → Width w

width : (w : ℕ) → Width w
width w = at_test (leb 1 w) (leb w 18) refl refl
  where
    at_test : (t u : Bool) → leb 1 w ≡ t → leb w 18 ≡ u → Width w
    at_test true true p q = right (simp (p, q)) (leb-true 1 w p, leb-true w 18 q)
    at_test true false p q = wrong (simp (p, q)) (inr (leb-false w 18 q))
    at_test false u p q = wrong (simp p) (inl (leb-false 1 w p))

not_both : (w : ℕ) → RightWidth w → WrongWidth w → ⊥
not_both w r (inl h) = omega arith
not_both w r (inr h) = omega arith

-- ---- READ ALONE: 16 exactly for a wrong width; else 5 exactly for a minus zero and for what has no shape; else the number
answer_5 : (c : Column) → column_answer c ≡ refused 5 0 → (c ≡ MinusZero) ⊎ (c ≡ Malformed)
answer_5 (Value z) e = let x : ◌≡◌ {A = ℕ} 0 1 = cc in absurd (omega arith)
answer_5 MinusZero e = inl refl
answer_5 Malformed e = inr refl

answer-given : (c : Column) (z : ℤ) → column_answer c ≡ given z → c ≡ Value z
answer-given (Value y) z e = cc
answer-given MinusZero z e = let x : ◌≡◌ {A = ℕ} 0 1 = cc in absurd (omega arith)
answer-given Malformed z e = let x : ◌≡◌ {A = ℕ} 0 1 = cc in absurd (omega arith)

answer_16 : (c : Column) → column_answer c ≡ refused 16 0 → ⊥
answer_16 (Value z) e = let x : ◌≡◌ {A = ℕ} 0 1 = cc in omega arith
answer_16 MinusZero e = let x : ◌≡◌ {A = ℕ} 5 16 = cc in omega arith
answer_16 Malformed e = let x : ◌≡◌ {A = ℕ} 5 16 = cc in omega arith

pub read_16 : (l : List ℕ) → read_alone l ≡ refused 16 0 ↔ WrongWidth (length l)
unfolding read_alone
read_16 l = at_width (width (length l))
  where
    at_width : Width (length l) → cond (width_ok (length l)) (column_answer (column_of l)) (refused 16 0) ≡ refused 16 0 ↔ WrongWidth (length l)
    at_width (right e r) = simp e ((λ p. absurd (answer_16 (column_of l) p)), λ h. absurd (not_both (length l) r h))
    at_width (wrong e h) = simp e ((λ p. h), λ p. refl)

shape_5 : (l : List ℕ) → (column_of l ≡ MinusZero) ⊎ (column_of l ≡ Malformed) → MinusZeros l ⊎ Shapeless l
shape_5 l (inl e) = inl ((minus_zero_exactly l).0 e)
shape_5 l (inr e) = inr ((malformed_exactly l).0 e)

refused_5 : (l : List ℕ) → MinusZeros l ⊎ Shapeless l → column_answer (column_of l) ≡ refused 5 0
refused_5 l (inl s) = ap column_answer ((minus_zero_exactly l).1 s)
refused_5 l (inr s) = ap column_answer ((malformed_exactly l).1 s)

pub read_5 : (l : List ℕ) → RightWidth (length l) → read_alone l ≡ refused 5 0 ↔ MinusZeros l ⊎ Shapeless l
unfolding read_alone
read_5 l r = at_width (width (length l))
  where
    at_width : Width (length l) → cond (width_ok (length l)) (column_answer (column_of l)) (refused 16 0) ≡ refused 5 0 ↔ MinusZeros l ⊎ Shapeless l
    at_width (right e h) = simp e ((λ p. shape_5 l (answer_5 (column_of l) p)), refused_5 l)
    at_width (wrong e h) = absurd (not_both (length l) r h)

pub read_given : (l : List ℕ) (z : ℤ) → RightWidth (length l) → read_alone l ≡ given z ↔ Says l z
unfolding read_alone
read_given l z r = at_width (width (length l))
  where
    at_width : Width (length l) → cond (width_ok (length l)) (column_answer (column_of l)) (refused 16 0) ≡ given z ↔ Says l z
    at_width (right e h) = simp e ((λ p. (value_exactly l z).0 (answer-given (column_of l) z p)), λ s. ap column_answer ((value_exactly l z).1 s))
    at_width (wrong e h) = absurd (not_both (length l) r h)

-- ---- WRITTEN ALONE
-- whether a number fits, in numbers
pub data Fitting (w : ℕ) (z : ℤ) : Type 0 where
  small : fits w z ≡ true → (TooLarge w z → ⊥) → Fitting w z
  large : fits w z ≡ false → TooLarge w z → Fitting w z

pub fitting : (w : ℕ) (z : ℤ) → RightWidth w → Fitting w z
fitting w (pos n) r = at_test (ltb n (10 ^ w)) refl
  where
    at_test : (t : Bool) → ltb n (10 ^ w) ≡ t → Fitting w (pos n)
    at_test true e = small (fits_plus w n r.0 (omega arith) ∙ e) (λ h. omega (arith, ltb-true n (10 ^ w) e))
    at_test false e = large (fits_plus w n r.0 (omega arith) ∙ e) (ltb-false n (10 ^ w) e)
fitting zero (negsuc n) r = absurd (omega arith)
fitting (suc w) (negsuc n) r = at_test (ltb (suc n) (10 ^ w)) refl
  where
    back : suc w - 1 ≡ w
    back = omega arith

    at_test : (t : Bool) → ltb (suc n) (10 ^ w) ≡ t → Fitting (suc w) (negsuc n)
    at_test true e = small (fits-minus w n (omega arith) ∙ e) (λ h. omega (arith, ltb-true (suc n) (10 ^ w) e, rw back at h))
    at_test false e = large (fits-minus w n (omega arith) ∙ e) (rw back (ltb-false (suc n) (10 ^ w) e))

-- a column is written where width and number allow it
data Alone (column : List ℕ) (z : ℤ) : Outcome ℕ → Type 0 where
  wrote : RightWidth (length column) → fits (length column) z ≡ true → (TooLarge (length column) z → ⊥) → Alone column z (record { answer = given (length column); bytes = written (length column) z })
  refuses : WrongWidth (length column) ⊎ TooLarge (length column) z → Alone column z (record { answer = refused 16 0; bytes = column })

alone : (column : List ℕ) (z : ℤ) → Alone column z (write_alone column z)
unfolding write_alone
alone column z = at_width (width (length column))
  where
    Result : Bool → Type 0
    Result t = Alone column z (cond t (record { answer = given (length column); bytes = written (length column) z }) (record { answer = refused 16 0; bytes = column }))

    at-fit : RightWidth (length column) → Fitting (length column) z → Result (fits (length column) z)
    at-fit r (small e h) = simp e (wrote r e h)
    at-fit r (large e h) = simp e (refuses (inr h))

    at_width : Width (length column) → Result (width_ok (length column) && fits (length column) z)
    at_width (right e r) = simp e (at-fit r (fitting (length column) z r))
    at_width (wrong e h) = simp e (refuses (inl h))

write_refuses : {column : List ℕ} {z : ℤ} {o : Outcome ℕ} → Alone column z o → o.answer ≡ refused 16 0 → WrongWidth (length column) ⊎ TooLarge (length column) z
write_refuses (wrote r e h) p = let x : ◌≡◌ {A = ℕ} 0 1 = cc in absurd (omega arith)
write_refuses (refuses h) p = h

refuses_write : {column : List ℕ} {z : ℤ} {o : Outcome ℕ} → Alone column z o → WrongWidth (length column) ⊎ TooLarge (length column) z → o.answer ≡ refused 16 0
refuses_write {column} (wrote r e h) (inl p) = absurd (not_both (length column) r p)
refuses_write (wrote r e h) (inr p) = absurd (h p)
refuses_write (refuses h) p = refl

pub write_16 : (column : List ℕ) (z : ℤ) → (write_alone column z).answer ≡ refused 16 0 ↔ WrongWidth (length column) ⊎ TooLarge (length column) z
write_16 column z = (write_refuses (alone column z), refuses_write (alone column z))

kept : {column : List ℕ} {z : ℤ} {o : Outcome ℕ} (n m : ℕ) → Alone column z o → o.answer ≡ refused n m → o.bytes ≡ column
kept n m (wrote r e h) p = let x : ◌≡◌ {A = ℕ} 0 1 = cc in absurd (omega arith)
kept n m (refuses h) p = refl

pub write_refused_kept : (column : List ℕ) (z : ℤ) (n m : ℕ) → (write_alone column z).answer ≡ refused n m → (write_alone column z).bytes ≡ column
write_refused_kept column z n m = kept n m (alone column z)

-- the digits of a number are its shortest
digits_of : (n : ℕ) → n < 10 ^ 20 → Digits (digits_in 19 n) n
digits_of n l = let m : Means (digits_in 19 n) n = digits_mean 19 n l in rw m.value at (numbered (digits_in 19 n) (is_number_lem (digits_in 19 n) n m))

shortest : (n : ℕ) → Shortest (digits_in 19 n) n
shortest n others d = let m : Means others n = left_means d in short 19 (length others) n m.some (rw m.value at (digits-below others m.all))

whole : (w : ℕ) (z : ℤ) → fits w z ≡ true → written w z ≡ replicate (w - length (text_of z)) 32 ++ text_of z
unfolding written fits
whole w z e = take_all w (replicate (w - length (text_of z)) 32 ++ text_of z) (simp (length-append, length-replicate) (omega (arith, leb-true (length (text_of z)) w e)))

below_20 : (w : ℕ) (z : ℤ) → RightWidth w → fits w z ≡ true → nat_abs z < 10 ^ 20
below_20 zero z r e = absurd (omega arith)
below_20 (suc w) z r e = omega (arith, fits-size w z (omega arith) e, pow-up (suc w) 20 (omega arith))

in_form : (w : ℕ) (z : ℤ) → RightWidth w → fits w z ≡ true → InWrittenForm (written w z) z
unfolding text_of digits
in_form w (pos n) r e = (record { spaces = w - length (digits_in 19 n); digits = digits_in 19 n; bytes = whole w (pos n) e; number = digits_of n (below_20 w (pos n) r e) }, shortest n)
in_form w (negsuc n) r e = (record { spaces = w - suc (length (digits_in 19 (suc n))); digits = digits_in 19 (suc n); bytes = whole w (negsuc n) e; number = digits_of (suc n) (below_20 w (negsuc n) r e) }, shortest (suc n))

gives : {column : List ℕ} {z : ℤ} {o : Outcome ℕ} → Alone column z o → RightWidth (length column) → (TooLarge (length column) z → ⊥) → WrittenAlone column z o
gives {column} {z} (wrote r e h) w s = record { answers = refl; wide = length-written (length column) z; form = in_form (length column) z r e }
gives {column} (refuses (inl h)) w s = absurd (not_both (length column) w h)
gives (refuses (inr h)) w s = absurd (s h)

pub write_gives : (column : List ℕ) (z : ℤ) → RightWidth (length column) → (TooLarge (length column) z → ⊥) → WrittenAlone column z (write_alone column z)
write_gives column z = gives (alone column z)

-- a column of a record written anew
pub rewritten : (layout : List Col) (name : String) (number : ℕ) (r : List ℕ) → RightWidth (find name layout).width → (find name layout).start + (find name layout).width ≤ length r → number < 10 ^ (find name layout).width → InWrittenForm (bytes_of (find name layout) (rewrite layout name number r)) (pos number)
unfolding rewrite
rewritten layout name number r w room l = rw (column-own (find name layout).start (find name layout).width (written (find name layout).width (pos number)) r (length-written (find name layout).width (pos number)) room) (go (fitting (find name layout).width (pos number) w))
  where
    go : Fitting (find name layout).width (pos number) → InWrittenForm (written (find name layout).width (pos number)) (pos number)
    go (small e n) = in_form _ (pos number) w e
    go (large e n) = absurd (omega (arith, l, n))
