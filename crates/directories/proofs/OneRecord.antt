-- One record of a directory, in the code's own words: letters, numbers, spaces, and the closing record. Assumes nothing.
use mathlib.Core.Path.{◌≡◌, refl, ap, ap₂, sym, ◌∙◌}
use mathlib.Core.Bool.{Bool, true, false, ◌&&◌, and-true, false≢true}
use mathlib.Core.List.{List, [], ◌∷◌}
use mathlib.Core.Logic.{◌⊎◌}
use Rattle.std.proofs.Common.{inl, inr}
use Prim.Native.Nat.{ℕ, ◌+◌, ◌*◌, ◌≤◌, ◌<◌}
use native.Mathlib.Omega.{arith}
use borrow.Author.Tests.{eq-eqb, ne_eqb, eqb-true, le-leb}
use Rattle.std.specs.List.{starts_with}
use lib.Dec.{eqb, leb}
use lib.IntN.{ℤ}
use lib.ListN.{length, take, drop}
use lib.Seq.{drop-drop}
use mir.Syntax.{w64}
use mir.Val.{Fits, SFits, to_z, of_z}
use mir.ValLaws.{to_z-of_z}
use Rattle.format.specs.Text.{bytes, same}
use Rattle.format.specs.declared.Column.{Column}
use Rattle.format.specs.declared.Column.TheVariants.{Value, MinusZero, Malformed}
use Rattle.format.specs.Column.{column_of, number_of, fits}
use Rattle.format.specs.Layout.{column, spaces}
use Rattle.format.proofs.Columns.{length-column}
use Rattle.format.proofs.NormalReads.{read_fits}
use Rattle.columns.specs.InRecord.{column_at, is_written_at}
use Rattle.columns.specs.InRecord as InRecord
use Rattle.columns.proofs.Laws.{column-at-inside}
use Rattle.format_directory.specs.declared.Edition.{Edition}
use Rattle.format_directory.specs.declared.Edition.TheVariants.{One, Two}
use Rattle.format_directory.specs.Directory.{letters, end_letters, end_columns, per_layer, per_record, number_in, pointer_in, is_written, closing_ok, is_second}
use Rattle.directory_columns.specs.Numbers.{number_is, spaces_from}
use Rattle.directories.specs.Steps.{framed, others_written, closing_is}

-- ---- `is_framed`
joined_left : (v u s : Bool) → v && (u && s) ≡ (v && u) && s
joined_left true u s = refl
joined_left false u s = refl

either_way : (x y : ℕ) → eqb x y ≡ eqb y x
either_way x y = go (eqb y x) refl
  where
    go : (t : Bool) → eqb y x ≡ t → eqb x y ≡ t
    go true e = eq-eqb x y (sym (eqb-true y x e))
    go false e = ne_eqb x y (λ q. absurd (false≢true (sym e ∙ eq-eqb y x (sym q))))

letters_are : (r l : List ℕ) → 2 ≤ length r → length l ≡ 2 → same (take 2 r) l ≡ starts_with eqb r l
letters_are [] l h q = absurd (omega arith)
letters_are (a ∷ []) l h q = absurd (omega arith)
letters_are (a ∷ b ∷ r) [] h q = absurd (omega arith)
letters_are (a ∷ b ∷ r) (x ∷ []) h q = absurd (omega arith)
letters_are (a ∷ b ∷ r) (x ∷ y ∷ z ∷ l) h q = absurd (omega arith)
letters_are (a ∷ b ∷ r) (x ∷ y ∷ []) h q = ap₂ (λ (s t : Bool). s && (t && true)) (either_way a x) (either_way b y)

pub framed_is : (r l : List ℕ) (columns : ℕ) → length l ≡ 2 → framed l columns r ≡ (eqb (length r) 84 && starts_with eqb r l) && spaces_from r columns
unfolding framed spaces_from
framed_is r l columns q = go (eqb (length r) 84) refl
  where
    go : (t : Bool) → eqb (length r) 84 ≡ t → t && (same (take 2 r) l && spaces (drop (2 + 7 * columns) r)) ≡ (t && starts_with eqb r l) && (t && spaces (drop (2 + 7 * columns) r))
    go false e = refl
    go true e = ap (λ (t : Bool). t && spaces (drop (2 + 7 * columns) r)) (letters_are r l (omega (arith, eqb-true (length r) 84 e)) q)

-- the letters of each edition
pub first_letters : (e : Edition) → e ≡ One → 90 ∷ 32 ∷ [] ≡ letters e
unfolding bytes
first_letters e is = ap letters (sym is)

pub second_letters : (e : Edition) → e ≡ Two → 89 ∷ 32 ∷ [] ≡ letters e
unfolding bytes
second_letters e is = ap letters (sym is)

pub first_end : (e : Edition) → e ≡ One → 90 ∷ 69 ∷ [] ≡ end_letters e
unfolding bytes
first_end e is = ap end_letters (sym is)

pub second_end : (e : Edition) → e ≡ Two → 89 ∷ 69 ∷ [] ≡ end_letters e
unfolding bytes
second_end e is = ap end_letters (sym is)

-- the numbers of so many layers fit a record
pub row_fits : (e : Edition) (own layers : ℕ) → own ≡ per_layer e → layers ≤ per_record e → Fits w64 (own * layers)
row_fits One own layers q h = rw q (record { fits = omega arith })
row_fits Two own layers q h = rw q (record { fits = omega arith })

-- ---- `is_second`
pub second_is : (r : List ℕ) → length r ≡ 84 → is_second r ≡ starts_with eqb r (89 ∷ 69 ∷ [])
unfolding is_second bytes
second_is r w = letters_are r (89 ∷ 69 ∷ []) (omega arith) refl

-- ---- `is_written`, `number_in`
module _ (r : List ℕ) (k : ℕ) (w : length r ≡ 84) (small : k < 11) where
  abbrev c : List ℕ
  c = column (2 + 7 * k) 7 r

  inside : column_at r (2 + 7 * k) 7 ≡ column_of c
  inside = column-at-inside r (2 + 7 * k) 7 (omega arith) (omega arith)

  pub number_read : (n : ℕ) → n ≡ InRecord.number_in r (2 + 7 * k) 7 → n ≡ number_in k r
  unfolding InRecord.number_in number_in
  number_read n e = e ∙ ap number_of inside

  module _ (column₁ : Column) (is : column₁ ≡ column_at r (2 + 7 * k) 7) where
    said : column_of c ≡ column₁
    said = sym (is ∙ inside)

    pub not-formed : (column₁ ≡ MinusZero) ⊎ (column₁ ≡ Malformed) → false ≡ is_written c
    unfolding is_written
    not-formed (inl q) = rw (said, q)
    not-formed (inr q) = rw (said, q)

    pub is_formed_lem : (z : ℤ) (t : Bool) → column₁ ≡ Value z → SFits w64 z → t ≡ is_written_at r (2 + 7 * k) 7 (to_z w64 (of_z w64 z)) → t ≡ is_written c
    unfolding is_written is_written_at
    is_formed_lem z t q s h =
        let long : length c ≡ 7 = length-column (2 + 7 * k) 7 r (omega arith) in
        let f : fits 7 z ≡ true = sym (ap (λ (n : ℕ). fits n z) long) ∙ (read_fits c z (omega arith) (said ∙ q)).1 in
        h ∙ ap (is_written_at r (2 + 7 * k) 7) (to_z-of_z w64 z s) ∙ rw (f, le-leb (2 + 7 * k + 7) (length r) (omega arith)) (rw (said, q))

-- ---- `closing_ok`
regrouped : (a w v s l h : Bool) → ((a && (w && (v && s))) && l) && h ≡ ((a && s) && (w && v)) && (l && h)
regrouped true true true true l h = refl
regrouped true true true false l h = refl
regrouped true true false true l h = refl
regrouped true true false false l h = refl
regrouped true false v true l h = refl
regrouped true false v false l h = refl
regrouped false w v s l h = refl

one_by_one : (f w o l h : Bool) → (f && (w && o)) && (l && h) ≡ (((f && w) && o) && l) && h
one_by_one false w o l h = refl
one_by_one true false o l h = refl
one_by_one true true false l h = refl
one_by_one true true true l h = refl

module _ (e : Edition) (number : ℕ) (r : List ℕ) (wide : length r ≡ 84) where
  splits : (e : Edition) → closing_ok e number r ≡ (framed (end_letters e) (end_columns e) r && (is_written (column (2 + 7 * 0) 7 r) && others_written e r)) && (leb 1 (pointer_in r) && leb (pointer_in r) number)
  unfolding closing_ok framed column
  splits One =
      ap₂ (λ (x y : List ℕ). ((same (take 2 r) (end_letters One) && (is_written (take 7 (drop 2 r)) && (is_written (take 7 x) && spaces y))) && leb 1 (pointer_in r)) && leb (pointer_in r) number) (drop-drop 7 2 r) (drop-drop 7 7 (drop 2 r) ∙ drop-drop 14 2 r)
      ∙ regrouped (same (take 2 r) (end_letters One)) (is_written (take 7 (drop 2 r))) (is_written (take 7 (drop 9 r))) (spaces (drop 16 r)) (leb 1 (pointer_in r)) (leb (pointer_in r) number)
      ∙ rw (eq-eqb (length r) 84 wide)
  splits Two =
      ap₂ (λ (x : List ℕ) (t : Bool). ((same (take 2 r) (end_letters Two) && (is_written (take 7 (drop 2 r)) && (is_written (take 7 x) && t))) && leb 1 (pointer_in r)) && leb (pointer_in r) number) (drop-drop 7 2 r) (ap₂ (λ (x y : List ℕ). is_written (take 7 x) && spaces y) (drop-drop 7 7 (drop 2 r) ∙ drop-drop 14 2 r) (drop-drop 7 7 (drop 7 (drop 2 r)) ∙ drop-drop 14 7 (drop 2 r) ∙ drop-drop 21 2 r))
      ∙ ap (λ (t : Bool). ((same (take 2 r) (end_letters Two) && (is_written (take 7 (drop 2 r)) && t)) && leb 1 (pointer_in r)) && leb (pointer_in r) number) (joined_left (is_written (take 7 (drop 9 r))) (is_written (take 7 (drop 16 r))) (spaces (drop 23 r)))
      ∙ regrouped (same (take 2 r) (end_letters Two)) (is_written (take 7 (drop 2 r))) (is_written (take 7 (drop 9 r)) && is_written (take 7 (drop 16 r))) (spaces (drop 23 r)) (leb 1 (pointer_in r)) (leb (pointer_in r) number)
      ∙ rw (eq-eqb (length r) 84 wide)

  pub closing_parts : closing_ok e number r ≡ (((framed (end_letters e) (end_columns e) r && is_written (column (2 + 7 * 0) 7 r)) && others_written e r) && leb 1 (pointer_in r)) && leb (pointer_in r) number
  closing_parts = splits e ∙ one_by_one (framed (end_letters e) (end_columns e) r) (is_written (column (2 + 7 * 0) 7 r)) (others_written e r) (leb 1 (pointer_in r)) (leb (pointer_in r) number)

-- ---- `is_closing`
-- what is left behind the count
abbrev pub states_edition : Edition → List ℕ → Bool
states_edition One r = true
states_edition Two r = number_is r 2 2

in_turn : (f p n s : Bool) → f && (p && (n && s)) ≡ ((f && p) && n) && s
in_turn false p n s = refl
in_turn true false n s = refl
in_turn true true n s = refl

module _ (e : Edition) (pointer count : ℕ) (r : List ℕ) where
  pub parts : (e : Edition) → closing_is e pointer count r ≡ framed (end_letters e) (end_columns e) r && (number_is r 0 pointer && (number_is r 1 count && states_edition e r))
  unfolding closing_is
  parts One = refl
  parts Two = ap (λ (t : Bool). framed (end_letters Two) (end_columns Two) r && (number_is r 0 pointer && (number_is r 1 count && t))) (and-true (number_is r 2 2))

  pub is_parts : closing_is e pointer count r ≡ ((framed (end_letters e) (end_columns e) r && number_is r 0 pointer) && number_is r 1 count) && states_edition e r
  is_parts = parts e ∙ in_turn (framed (end_letters e) (end_columns e) r) (number_is r 0 pointer) (number_is r 1 count) (states_edition e r)
