-- A record of a directory is the right one exactly when it has its letters, its numbers and its spaces. Assumes nothing.
use mathlib.Core.Path.{◌≡◌, refl, ap, ap₂, sym, ◌∙◌}
use mathlib.Core.Bool.{Bool, true, false, ◌&&◌, false≢true}
use mathlib.Core.List.{List, [], ◌∷◌, ◌++◌}
use Prim.Native.Nat.{ℕ, zero, suc, ◌+◌, ◌-◌, ◌*◌, ◌^◌, ◌≤◌, ◌<◌}
use native.Mathlib.Nat.{zero-add}
use native.Mathlib.Omega.{arith}
use borrow.Author.Tests.{eq-eqb, eqb-true, lt-ltb, le-leb}
use lib.Dec.{eqb, ltb, leb}
use lib.IntN.{pos}
use lib.ListN.{length, length-drop, take, drop, get_or, replicate, take-append-drop}
use lib.Seq.{drop-drop, drop_at, take_at}
use Rattle.format.specs.Text.{same}
use Rattle.format.specs.Column.{written, fits, width_ok}
use Rattle.format.specs.Layout.{column, spaces}
use Rattle.format.proofs.Basics.{and-true, true_and}
use Rattle.format.proofs.ChecksParts.{same_decides}
use Rattle.format.proofs.ColumnFits.{fits_plus}
use Rattle.columns.specs.InRecord.{is_written_at}
use Rattle.format_directory.specs.Directory.{columns_of, record_of}
use Rattle.format_directory.proofs.DirectoryRecords.{TwoLetters, Short, column-at, short_get, spaces-replicate, length_record, length_columns, same_self}
use Rattle.format_directory.proofs.DirectoryColumns.{columns_from, spaces-from}
use Rattle.format_directory.proofs.DirectoryChecks.{spaces_each}
use Rattle.directory_columns.specs.Numbers.{number_is, numbers_are}
use Rattle.directories.specs.Steps.{framed}

-- two tests that follow from each other are one
both : (a b : Bool) → (a ≡ true → b ≡ true) → (b ≡ true → a ≡ true) → a ≡ b
both true b f g = sym (f refl)
both false true f g = absurd (false≢true (g refl))
both false false f g = refl

spaces_are : (l : List ℕ) → spaces l ≡ true → l ≡ replicate (length l) 32
spaces_are l e = spaces-from l (spaces_each l e)

-- ---- the numbers of a record
number-bytes : (r : List ℕ) (k n : ℕ) → number_is r k n ≡ true → take 7 (drop (2 + 7 * k) r) ≡ written 7 (pos n)
unfolding number_is is_written_at column
number-bytes r k n e =
    let a = and-true (ltb k 11) ((width_ok 7 && fits 7 (pos n) && leb (2 + 7 * k + 7) (length r)) && same (take 7 (drop (2 + 7 * k) r)) (written 7 (pos n))) e in
    let b = and-true (width_ok 7 && fits 7 (pos n) && leb (2 + 7 * k + 7) (length r)) (same (take 7 (drop (2 + 7 * k) r)) (written 7 (pos n))) a.1 in
    (same_decides (take 7 (drop (2 + 7 * k) r)) (written 7 (pos n))).yes b.1

numbers_get : (r : List ℕ) (k : ℕ) (ns : List ℕ) → numbers_are r k ns ≡ true → (j : ℕ) → j < length ns → number_is r (k + j) (get_or ns j 0) ≡ true
numbers_get r k [] e j h = absurd (omega arith)
numbers_get r k (n ∷ ns) e zero h = ap (λ (m : ℕ). number_is r m n) (let q : k + 0 ≡ k = omega arith in q) ∙ (and-true (number_is r k n) (numbers_are r (suc k) ns) e).0
numbers_get r k (n ∷ ns) e (suc j) h = ap (λ (m : ℕ). number_is r m (get_or ns j 0)) (let q : k + suc j ≡ suc k + j = omega arith in q) ∙ numbers_get r (suc k) ns (and-true (number_is r k n) (numbers_are r (suc k) ns) e).1 j (omega arith)

columns_rest : (r : List ℕ) (k : ℕ) (ns : List ℕ) → numbers_are r k ns ≡ true → drop (2 + 7 * k) r ≡ columns_of ns ++ drop (2 + 7 * (k + length ns)) r
columns_rest r k ns e = columns_from r k ns (λ j h. number-bytes r (k + j) (get_or ns j 0) (numbers_get r k ns e j h))

pub numbers_each : (r : List ℕ) (k : ℕ) (ns : List ℕ) → ((j : ℕ) → j < length ns → number_is r (k + j) (get_or ns j 0) ≡ true) → numbers_are r k ns ≡ true
numbers_each r k [] h = refl
numbers_each r k (n ∷ ns) h = true_and _ _ (ap (λ (m : ℕ). number_is r m n) (let q : k ≡ k + 0 = omega arith in q) ∙ h 0 (omega arith)) (numbers_each r (suc k) ns (λ j l. ap (λ (m : ℕ). number_is r m (get_or ns j 0)) (let q : suc k + j ≡ k + suc j = omega arith in q) ∙ h (suc j) (omega arith)))

-- one that does not stand there is enough
pub numbers-other : (r : List ℕ) (k : ℕ) (ns : List ℕ) (j : ℕ) → j < length ns → number_is r (k + j) (get_or ns j 0) ≡ false → numbers_are r k ns ≡ false
numbers-other r k [] j l e = absurd (omega arith)
numbers-other r k (n ∷ ns) zero l e = ap (λ (t : Bool). t && numbers_are r (suc k) ns) (ap (λ (m : ℕ). number_is r m n) (let q : k ≡ k + 0 = omega arith in q) ∙ e)
numbers-other r k (n ∷ ns) (suc j) l e = ap (λ (t : Bool). number_is r k n && t) (numbers-other r (suc k) ns j (omega arith) (ap (λ (m : ℕ). number_is r m (get_or ns j 0)) (let q : suc k + j ≡ k + suc j = omega arith in q) ∙ e)) ∙ never (number_is r k n)
  where
    never : (t : Bool) → t && false ≡ false
    never true = refl
    never false = refl

-- ---- the right record
module _ (letters ns : List ℕ) (two : TwoLetters letters) (short : Short ns) (room : length ns ≤ 11) where
  rest_is : (l : List ℕ) → length l ≡ 2 → drop (2 + 7 * length ns) (l ++ (columns_of ns ++ replicate (82 - 7 * length ns) 32)) ≡ replicate (82 - 7 * length ns) 32
  rest_is l e = sym (drop-drop (7 * length ns) 2 (l ++ (columns_of ns ++ replicate (82 - 7 * length ns) 32))) ∙ ap (drop (7 * length ns)) (drop_at l (columns_of ns ++ replicate (82 - 7 * length ns) 32) 2 e) ∙ drop_at (columns_of ns) (replicate (82 - 7 * length ns) 32) (7 * length ns) (length_columns ns)

  letters_long : length letters ≡ 2
  letters_long = ap length two.are

  framed-right : framed letters (length ns) (record_of letters ns) ≡ true
  unfolding framed
  framed-right = true_and _ _ (eq-eqb (length (record_of letters ns)) 84 (length_record letters ns two room)) (true_and _ _ (ap (λ (l : List ℕ). same l letters) (take_at letters (columns_of ns ++ replicate (82 - 7 * length ns) 32) 2 letters_long) ∙ same_self letters) (ap spaces (rest_is letters letters_long) ∙ spaces-replicate (82 - 7 * length ns)))

  number-right : (j : ℕ) → j < length ns → number_is (record_of letters ns) j (get_or ns j 0) ≡ true
  unfolding number_is is_written_at
  number-right j h =
      let n = get_or ns j 0 in
      true_and _ _ (lt-ltb j 11 (omega arith)) (true_and _ _ (true_and _ _ (fits_plus 7 n (omega arith) (omega arith) ∙ lt-ltb n (10 ^ 7) (let l : n < 10000000 = short_get ns j short h in let g : n < 10 ^ 7 = omega arith in g)) (le-leb (2 + 7 * j + 7) (length (record_of letters ns)) (rw (length_record letters ns two room) (omega arith)))) (ap (λ (l : List ℕ). same l (written 7 (pos n))) (column-at letters ns two j h) ∙ same_self (written 7 (pos n))))

  module _ (r : List ℕ) where
    record_right : framed letters (length ns) r && numbers_are r 0 ns ≡ true → same r (record_of letters ns) ≡ true
    unfolding framed
    record_right e =
        let a = and-true (eqb (length r) 84 && (same (take 2 r) letters && spaces (drop (2 + 7 * length ns) r))) (numbers_are r 0 ns) e in
        let b = and-true (eqb (length r) 84) (same (take 2 r) letters && spaces (drop (2 + 7 * length ns) r)) a.0 in
        let c = and-true (same (take 2 r) letters) (spaces (drop (2 + 7 * length ns) r)) b.1 in
        let wide : length r ≡ 84 = eqb-true (length r) 84 b.0 in
        let long : length (drop (2 + 7 * length ns) r) ≡ 82 - 7 * length ns = length-drop (2 + 7 * length ns) r ∙ omega arith in
        let is : r ≡ record_of letters ns = sym (take-append-drop 2 r) ∙ ap₂ (λ (x y : List ℕ). x ++ y) ((same_decides (take 2 r) letters).yes c.0) (columns_rest r 0 ns a.1 ∙ ap (λ (m : ℕ). columns_of ns ++ drop (2 + 7 * m) r) (zero-add (length ns)) ∙ ap (λ (y : List ℕ). columns_of ns ++ y) (spaces_are (drop (2 + 7 * length ns) r) c.1 ∙ ap (λ (m : ℕ). replicate m 32) long)) in
        ap (λ (x : List ℕ). same x (record_of letters ns)) is ∙ same_self (record_of letters ns)

    right_record : same r (record_of letters ns) ≡ true → framed letters (length ns) r && numbers_are r 0 ns ≡ true
    right_record e =
        let is : r ≡ record_of letters ns = (same_decides r (record_of letters ns)).yes e in
        ap (λ (x : List ℕ). framed letters (length ns) x && numbers_are x 0 ns) is ∙ true_and _ _ framed-right (numbers_each (record_of letters ns) 0 ns (λ j h. ap (λ (m : ℕ). number_is (record_of letters ns) m (get_or ns j 0)) (zero-add j) ∙ number-right j h))

    pub record_same : framed letters (length ns) r && numbers_are r 0 ns ≡ same r (record_of letters ns)
    record_same = both _ _ record_right right_record
