-- The records of a directory: their width, and what their columns say. Assumes nothing.
use mathlib.Core.Path.{◌≡◌, refl, ap, ap₂, sym, ◌∙◌}
use mathlib.Core.Bool.{Bool, true, false, ◌&&◌}
use mathlib.Core.List.{List, [], ◌∷◌, ◌++◌, append_assoc, map}
use Prim.Native.Nat.{ℕ, zero, suc, pred, ◌+◌, ◌-◌, ◌*◌, ◌/◌, ◌%◌, ◌≤◌, ◌<◌}
use native.Mathlib.Omega.{arith}
use lib.Dec.{leb}
use lib.IntN.{ℤ, pos}
use lib.ListN.{length, length-append, length-drop, length-map, take, drop, get_or, replicate, length-replicate, get_or-append}
use lib.Seq.{drop-drop, take_at, drop_at, get_or-drop, get_or-take, get_or-append-add}
use borrow.Author.Tests.{le-leb}
use Rattle.format.specs.declared.Column.TheVariants.{Value}
use Rattle.format.specs.Text.{bytes, same}
use Rattle.format.specs.Basics.{none, unless, to_fault, round_up}
use Rattle.format.specs.Column.{column_of, formed, integer, number_of, written}
use Rattle.format.specs.Layout.{column, spaces}
use Rattle.format.specs.Record.{Kind, head, item, neither, View}
use Rattle.format.specs.Judge.{due_after, headers_and_items, one_if_item, items}
use Rattle.format_directory.specs.declared.Edition.{Edition}
use Rattle.format_directory.specs.declared.Edition.TheVariants.{One, Two}
use Rattle.format_directory.specs.Directory.{Layer, total_of, last_of, letters, end_letters, listed, per_layer, per_record, end_listed, end_columns, columns_of, record_of, listed_all, row, closing, shared, directory_of, number_in, pointer_in, layer_count, is_written, are_written, closing_ok, differs, listed_in, no_layer}
use Rattle.format.proofs.Basics.{true_and, unless_zero}
use Rattle.format.proofs.ChecksParts.{same_decides}
use Rattle.format.proofs.Lists.{Wide, wide_append}
use Rattle.format.proofs.Columns.{length-written, read_written}
use Rattle.format.proofs.JudgeWalks.{or_else-none, to_fault-none}

-- ---- what an edition has of its own
pub length-listed : (e : Edition) (l : Layer) → length (listed e l) ≡ per_layer e
length-listed One l = refl
length-listed Two l = refl

pub length-end_listed : (e : Edition) (p c : ℕ) → length (end_listed e p c) ≡ end_columns e
length-end_listed One p c = refl
length-end_listed Two p c = refl

-- the numbers of so many layers fit a record
pub row_fits : (e : Edition) (k : ℕ) → k ≤ per_record e → per_layer e * k ≤ 11
row_fits One k h = omega arith
row_fits Two k h = omega arith

pub end_fits : (e : Edition) → end_columns e ≤ 11
end_fits One = omega arith
end_fits Two = omega arith

pub same_self : (l : List ℕ) → same l l ≡ true
same_self l = go (same l l) refl
  where
    go : (t : Bool) → same l l ≡ t → same l l ≡ true
    go true e = e
    go false e = absurd ((same_decides l l).no e refl)

-- two letters
pub record TwoLetters (l : List ℕ) : Type 0 where
  pub x : ℕ
  pub y : ℕ
  pub are : l ≡ x ∷ y ∷ []

pub two_letters : (e : Edition) → TwoLetters (letters e)
unfolding bytes
two_letters One = record { x = 90; y = 32; are = refl }
two_letters Two = record { x = 89; y = 32; are = refl }

pub two_end_letters : (e : Edition) → TwoLetters (end_letters e)
unfolding bytes
two_end_letters One = record { x = 90; y = 69; are = refl }
two_end_letters Two = record { x = 89; y = 69; are = refl }

-- ---- columns of seven
-- every number has at most seven digits
unfoldable pub Short : List ℕ → Type 0
Short [] = Unit {0}
Short (n ∷ ns) = (n < 10000000) × Short ns

seven-column : (n : ℕ) → n < 10000000 → column_of (written 7 (pos n)) ≡ Value (pos n)
seven-column n l = read_written 7 n (omega arith) (omega arith) (omega arith)

seven-written : (n : ℕ) → n < 10000000 → is_written (written 7 (pos n)) ≡ true
unfolding is_written
seven-written n l = true_and _ _ (ap formed (seven-column n l)) (ap (λ (z : ℤ). same (written 7 (pos n)) (written 7 z)) (ap integer (seven-column n l)) ∙ same_self (written 7 (pos n)))

pub length_columns : (ns : List ℕ) → length (columns_of ns) ≡ 7 * length ns
length_columns [] = refl
length_columns (n ∷ ns) = rw (length-append (written 7 (pos n)) (columns_of ns)) (omega (arith, length-written 7 (pos n), length_columns ns))

columns_drop : (ns : List ℕ) (k : ℕ) (z : List ℕ) → k < length ns → drop (7 * k) (columns_of ns ++ z) ≡ written 7 (pos (get_or ns k 0)) ++ (columns_of (drop (suc k) ns) ++ z)
columns_drop [] k z l = absurd (omega arith)
columns_drop (n ∷ ns) zero z l = append_assoc (written 7 (pos n)) (columns_of ns) z
columns_drop (n ∷ ns) (suc k) z l = ap₂ (λ (a : ℕ) (b : List ℕ). drop a b) more (append_assoc (written 7 (pos n)) (columns_of ns) z) ∙ sym (drop-drop (7 * k) 7 (written 7 (pos n) ++ (columns_of ns ++ z))) ∙ ap (drop (7 * k)) (drop_at (written 7 (pos n)) (columns_of ns ++ z) 7 (length-written 7 (pos n))) ∙ columns_drop ns k z (omega arith)
  where
    more : 7 * suc k ≡ 7 + 7 * k
    more = omega arith

pub short_get : (ns : List ℕ) (k : ℕ) → Short ns → k < length ns → get_or ns k 0 < 10000000
unfolding Short
short_get [] k s l = absurd (omega arith)
short_get (n ∷ ns) zero s l = s.0
short_get (n ∷ ns) (suc k) s l = short_get ns k s.1 (omega arith)

-- a column is as it was written, and its number reads back
pub column-at : (l ns : List ℕ) → TwoLetters l → (k : ℕ) → k < length ns → column (2 + 7 * k) 7 (record_of l ns) ≡ written 7 (pos (get_or ns k 0))
unfolding column
column-at l ns t k h = ap (λ (x : List ℕ). take 7 (drop (2 + 7 * k) (x ++ rest))) t.are ∙ ap (λ (m : ℕ). take 7 (drop m (t.x ∷ t.y ∷ rest))) two_more ∙ ap (take 7) (columns_drop ns k (replicate (82 - 7 * length ns) 32) h) ∙ take_at (written 7 (pos (get_or ns k 0))) (columns_of (drop (suc k) ns) ++ replicate (82 - 7 * length ns) 32) 7 (length-written 7 (pos (get_or ns k 0)))
  where
    rest : List ℕ
    rest = columns_of ns ++ replicate (82 - 7 * length ns) 32

    two_more : 2 + 7 * k ≡ suc (suc (7 * k))
    two_more = omega arith

number-at : (l ns : List ℕ) → TwoLetters l → (k : ℕ) → Short ns → k < length ns → number_in k (record_of l ns) ≡ get_or ns k 0
unfolding number_in
number-at l ns t k s h = ap (λ (r : List ℕ). number_of (column_of r)) (column-at l ns t k h) ∙ ap number_of (seven-column (get_or ns k 0) (short_get ns k s h))

-- all are in written form, and the rest is spaces
pub spaces-replicate : (n : ℕ) → spaces (replicate n 32) ≡ true
spaces-replicate zero = refl
spaces-replicate (suc n) = spaces-replicate n

all-written : (ns : List ℕ) (n : ℕ) → Short ns → are_written (length ns) (columns_of ns ++ replicate n 32) ≡ true
unfolding Short
all-written [] n s = spaces-replicate n
all-written (m ∷ ns) n s = ap (λ (x : List ℕ). is_written (take 7 x) && are_written (length ns) (drop 7 x)) (append_assoc (written 7 (pos m)) (columns_of ns) (replicate n 32)) ∙ true_and _ _ (ap is_written (take_at (written 7 (pos m)) (columns_of ns ++ replicate n 32) 7 (length-written 7 (pos m))) ∙ seven-written m s.0) (ap (are_written (length ns)) (drop_at (written 7 (pos m)) (columns_of ns ++ replicate n 32) 7 (length-written 7 (pos m))) ∙ all-written ns n s.1)

-- ---- widths
pub length_record : (l ns : List ℕ) → TwoLetters l → length ns ≤ 11 → length (record_of l ns) ≡ 84
length_record l ns t h = ap (λ (x : List ℕ). length (x ++ (columns_of ns ++ replicate (82 - 7 * length ns) 32))) t.are ∙ ap (λ (k : ℕ). suc (suc k)) (length-append (columns_of ns) (replicate (82 - 7 * length ns) 32) ∙ ap₂ (λ (a b : ℕ). a + b) (length_columns ns) (length-replicate {A = ℕ} (82 - 7 * length ns) 32)) ∙ (omega arith)

pub length-listed_all : (e : Edition) (ls : List Layer) → length (listed_all e ls) ≡ per_layer e * length ls
length-listed_all e [] = omega arith
length-listed_all e (l ∷ ls) = length-append (listed e l) (listed_all e ls) ∙ ap₂ (λ (a b : ℕ). a + b) (length-listed e l) (length-listed_all e ls) ∙ (omega arith)

pub most : (n : ℕ) (ls : List Layer) → length (take n ls) ≤ n
most zero ls = omega arith
most (suc n) [] = omega arith
most (suc n) (l ∷ ls) = omega (arith, most n ls)

pub length-row : (e : Edition) (ls : List Layer) → length ls ≤ per_record e → length (row e ls) ≡ 84
unfolding row
length-row e ls h = length_record (letters e) (listed_all e ls) (two_letters e) (omega (arith, length-listed_all e ls, row_fits e (length ls) h))

pub length-closing : (e : Edition) (p c : ℕ) → length (closing e p c) ≡ 84
unfolding closing
length-closing e p c = length_record (end_letters e) (end_listed e p c) (two_end_letters e) (omega (arith, length-end_listed e p c, end_fits e))

pub wide_rows : (e : Edition) (n : ℕ) (ls : List Layer) → Wide (map (row e) (shared (per_record e) n ls))
unfolding Wide
wide_rows e zero ls = tt
wide_rows e (suc n) ls = (length-row e (take (per_record e) ls) (most (per_record e) ls), wide_rows e n (drop (per_record e) ls))

pub wide_directory : (e : Edition) (p : ℕ) (ls : List Layer) → Wide (directory_of e p ls)
unfolding directory_of Wide
wide_directory e p ls = wide_append (map (row e) (shared (per_record e) (round_up (length ls) (per_record e)) ls)) (closing e p (length ls) ∷ []) (wide_rows e (round_up (length ls) (per_record e)) ls) (length-closing e p (length ls), tt)

-- ---- the closing record
module _ (p c : ℕ) (lp : p < 10000000) (lc : c < 10000000) where
  pub short_end : (e : Edition) → Short (end_listed e p c)
  unfolding Short
  short_end One = (lp, (lc, tt))
  short_end Two = (lp, (lc, (omega arith, tt)))

  pub pointer_closing : (e : Edition) → pointer_in (closing e p c) ≡ p
  unfolding closing
  pointer_closing One = number-at (end_letters One) (end_listed One p c) (two_end_letters One) 0 (short_end One) (omega arith)
  pointer_closing Two = number-at (end_letters Two) (end_listed Two p c) (two_end_letters Two) 0 (short_end Two) (omega arith)

  pub count-closing : (e : Edition) → layer_count (closing e p c) ≡ c
  unfolding closing
  count-closing One = number-at (end_letters One) (end_listed One p c) (two_end_letters One) 1 (short_end One) (omega arith)
  count-closing Two = number-at (end_letters Two) (end_listed Two p c) (two_end_letters Two) 1 (short_end Two) (omega arith)

  pub ok_closing : (e : Edition) (m : ℕ) → 1 ≤ p → p ≤ m → closing_ok e m (closing e p c) ≡ true
  unfolding closing_ok closing
  ok_closing e m a b = true_and _ _ (true_and _ _ (true_and _ _ its_letters its_columns) (ap (leb 1) at ∙ le-leb 1 p a)) (ap (λ (x : ℕ). leb x m) at ∙ le-leb p m b)
    where
      at : pointer_in (closing e p c) ≡ p
      at = pointer_closing e

      t : TwoLetters (end_letters e)
      t = two_end_letters e

      rest : List ℕ
      rest = columns_of (end_listed e p c) ++ replicate (82 - 7 * length (end_listed e p c)) 32

      its_letters : same (take 2 (end_letters e ++ rest)) (end_letters e) ≡ true
      its_letters = ap (λ (l : List ℕ). same (take 2 (l ++ rest)) l) t.are ∙ same_self (t.x ∷ t.y ∷ [])

      its_columns : are_written (end_columns e) (drop 2 (end_letters e ++ rest)) ≡ true
      its_columns = ap₂ (λ (n : ℕ) (l : List ℕ). are_written n (drop 2 (l ++ rest))) (sym (length-end_listed e p c)) t.are ∙ all-written (end_listed e p c) (82 - 7 * length (end_listed e p c)) (short_end e)

-- ---- the right directory, and no other
pub differs_self : (i : ℕ) (xs : List (List ℕ)) → differs i xs xs ≡ none
differs_self i [] = refl
differs_self i (x ∷ xs) = rw (same_self x) (differs_self (suc i) xs)

pub differs_none : (i : ℕ) (xs ys : List (List ℕ)) → differs i xs ys ≡ none → xs ≡ ys
differs_none i [] [] e = refl
differs_none i [] (y ∷ ys) e = let z : ◌≡◌ {A = ℕ} 0 1 = cc in absurd (omega arith)
differs_none i (x ∷ xs) [] e = let z : ◌≡◌ {A = ℕ} 0 1 = cc in absurd (omega arith)
differs_none i (x ∷ xs) (y ∷ ys) e = let p = or_else-none (to_fault (unless (same x y) 19) i) (differs (suc i) xs ys) e in ap₂ (λ (u : List ℕ) (v : List (List ℕ)). u ∷ v) ((same_decides x y).yes (unless_zero (same x y) 18 (to_fault-none (unless (same x y) 19) i p.0))) (differs_none (suc i) xs ys p.1)

-- ---- what the directory lists of layer j, from 0
-- a layer's last record, and with it each of its numbers, has at most seven digits
abbrev pub Fits : Layer → Type 0
Fits l = l.header + length l.body < 10000000

unfoldable pub AllFit : List Layer → Type 0
AllFit [] = Unit {0}
AllFit (l ∷ ls) = Fits l × AllFit ls

items-few : (n : ℕ) (rs : List View) → items (headers_and_items n rs) ≤ length rs
items-few n [] = omega arith
items-few zero (r ∷ rs) = go r.kind (items-few (due_after 0 r) rs)
  where
    go : (k : Kind) → items (headers_and_items (due_after 0 r) rs) ≤ length rs → one_if_item k + items (headers_and_items (due_after 0 r) rs) ≤ suc (length rs)
    go head ih = omega arith
    go (item k) ih = omega arith
    go neither ih = omega arith
items-few (suc n) (r ∷ rs) = omega (arith, items-few n rs)

pub short-listed : (e : Edition) (l : Layer) → Fits l → Short (listed e l)
unfolding Short total_of last_of
short-listed One l f = (omega arith, tt)
short-listed Two l f = (omega arith, (omega (arith, items-few 0 l.body), (f, tt)))

short-append : (a b : List ℕ) → Short a → Short b → Short (a ++ b)
unfolding Short
short-append [] b p q = q
short-append (n ∷ a) b p q = (p.0, short-append a b p.1 q)

pub short-all : (e : Edition) (ls : List Layer) → AllFit ls → Short (listed_all e ls)
unfolding Short AllFit
short-all e [] f = tt
short-all e (l ∷ ls) f = short-append (listed e l) (listed_all e ls) (short-listed e l f.0) (short-all e ls f.1)

pub fit_at : (n : ℕ) (ls : List Layer) → AllFit ls → n < length ls → Fits (get_or ls n no_layer)
unfolding AllFit
fit_at n [] f h = absurd (omega arith)
fit_at zero (l ∷ ls) f h = f.0
fit_at (suc n) (l ∷ ls) f h = fit_at n ls f.1 (omega arith)

pub fit-take : (n : ℕ) (ls : List Layer) → AllFit ls → AllFit (take n ls)
unfolding AllFit
fit-take zero ls f = tt
fit-take (suc n) [] f = tt
fit-take (suc n) (l ∷ ls) f = (f.0, fit-take n ls f.1)

pub fit-drop : (n : ℕ) (ls : List Layer) → AllFit ls → AllFit (drop n ls)
unfolding AllFit
fit-drop zero ls f = f
fit-drop (suc n) [] f = tt
fit-drop (suc n) (l ∷ ls) f = fit-drop n ls f.1

-- in a record
listed_at : (e : Edition) (g : List Layer) (j i : ℕ) → j < length g → i < per_layer e → get_or (listed_all e g) (per_layer e * j + i) 0 ≡ get_or (listed e (get_or g j no_layer)) i 0
listed_at e [] j i l h = absurd (omega arith)
listed_at e (x ∷ g) zero i l h = ap (λ (k : ℕ). get_or (listed e x ++ listed_all e g) k 0) none₁ ∙ get_or-append (listed e x) (listed_all e g) 0 i (omega (arith, length-listed e x))
  where
    none₁ : per_layer e * 0 + i ≡ i
    none₁ = omega arith
listed_at e (x ∷ g) (suc j) i l h = ap (λ (k : ℕ). get_or (listed e x ++ listed_all e g) k 0) more ∙ get_or-append-add (listed e x) (listed_all e g) (per_layer e * j + i) 0 ∙ listed_at e g j i (omega arith) h
  where
    more : per_layer e * suc j + i ≡ length (listed e x) + (per_layer e * j + i)
    more = omega (arith, length-listed e x)

inside-row : (e : Edition) (g : List Layer) (j i : ℕ) → j < length g → i < per_layer e → per_layer e * j + i < length (listed_all e g)
inside-row e [] j i l h = absurd (omega arith)
inside-row e (x ∷ g) zero i l h = rw (length-append (listed e x) (listed_all e g)) (omega (arith, length-listed e x))
inside-row e (x ∷ g) (suc j) i l h = rw (length-append (listed e x) (listed_all e g)) (omega (arith, length-listed e x, inside-row e g j i (omega arith) h))

row-lists : (e : Edition) (g : List Layer) (j i : ℕ) → AllFit g → j < length g → i < per_layer e → number_in (per_layer e * j + i) (row e g) ≡ get_or (listed e (get_or g j no_layer)) i 0
unfolding row
row-lists e g j i f l h = number-at (letters e) (listed_all e g) (two_letters e) (per_layer e * j + i) (short-all e g f) (inside-row e g j i l h) ∙ listed_at e g j i l h

-- the record in which a layer stands
pub length-shared : (k n : ℕ) (ls : List Layer) → length (shared k n ls) ≡ n
length-shared k zero ls = refl
length-shared k (suc n) ls = ap suc (length-shared k n (drop k ls))

pub get_or-shared : (k n : ℕ) (ls : List Layer) (q : ℕ) → q < n → get_or (shared k n ls) q [] ≡ take k (drop (k * q) ls)
get_or-shared k zero ls q l = absurd (omega arith)
get_or-shared k (suc n) ls zero l = ap (λ (m : ℕ). take k (drop m ls)) none₁
  where
    none₁ : 0 ≡ k * 0
    none₁ = omega arith
get_or-shared k (suc n) ls (suc q) l = get_or-shared k n (drop k ls) q (omega arith) ∙ ap (take k) (drop-drop (k * q) k ls) ∙ ap (λ (m : ℕ). take k (drop m ls)) more
  where
    more : k + k * q ≡ k * suc q
    more = omega arith

pub get_d_rows : (e : Edition) (G : List (List Layer)) (q : ℕ) (Z : List (List ℕ)) → q < length G → get_or (map (row e) G ++ Z) q [] ≡ row e (get_or G q [])
get_d_rows e [] q Z l = absurd (omega arith)
get_d_rows e (g ∷ G) zero Z l = refl
get_d_rows e (g ∷ G) (suc q) Z l = get_d_rows e G q Z (omega arith)

pub in_take : (k : ℕ) (l : List Layer) (i : ℕ) → i < k → i < length l → i < length (take k l)
in_take zero l i a b = absurd (omega arith)
in_take (suc k) [] i a b = absurd (omega arith)
in_take (suc k) (x ∷ l) zero a b = omega arith
in_take (suc k) (x ∷ l) (suc i) a b = let h : i < length (take k l) = in_take k l i (omega arith) (omega arith) in omega arith

-- layer j is number q of record a
module _ (e : Edition) (ls : List Layer) (p j a q i : ℕ) (f : AllFit ls) (h : j < length ls) (k : i < per_layer e) (is : j ≡ per_record e * a + q) (small : q < per_record e) (there : a < round_up (length ls) (per_record e)) where
  g : List Layer
  g = take (per_record e) (drop (per_record e * a) ls)

  list_at : number_in (per_layer e * q + i) (get_or (directory_of e p ls) a []) ≡ get_or (listed e (get_or ls j no_layer)) i 0
  unfolding directory_of
  list_at = ap (number_in (per_layer e * q + i)) its ∙ row-lists e (take (per_record e) (drop (per_record e * a) ls)) q i (fit-take (per_record e) _ (fit-drop (per_record e * a) ls f)) (in_take (per_record e) (drop (per_record e * a) ls) q small (rw (length-drop (per_record e * a) ls) (omega (arith, is)))) k ∙ ap (λ (l : Layer). get_or (listed e l) i 0) (get_or-take (per_record e) (drop (per_record e * a) ls) q no_layer small ∙ get_or-drop (per_record e * a) ls q no_layer ∙ ap (λ (m : ℕ). get_or ls m no_layer) (sym is))
    where
      its : get_or (map (row e) (shared (per_record e) (round_up (length ls) (per_record e)) ls) ++ (closing e p (length ls) ∷ [])) a [] ≡ row e (take (per_record e) (drop (per_record e * a) ls))
      its = get_d_rows e (shared (per_record e) (round_up (length ls) (per_record e)) ls) a (closing e p (length ls) ∷ []) (omega (arith, there, length-shared (per_record e) (round_up (length ls) (per_record e)) ls)) ∙ ap (row e) (get_or-shared (per_record e) (round_up (length ls) (per_record e)) ls a there)

-- WHAT THE RIGHT DIRECTORY LISTS of layer n, from 1
pub directory_lists : (e : Edition) (ls : List Layer) (p n i : ℕ) → AllFit ls → 1 ≤ n → n ≤ length ls → i < per_layer e → listed_in e (directory_of e p ls) n i ≡ get_or (listed e (get_or ls (pred n) no_layer)) i 0
directory_lists One ls p n i f l h k = list_at One ls p (pred n) (pred n / 11) (pred n % 11) i f (omega arith) k (omega arith) (omega arith) (omega arith)
directory_lists Two ls p n i f l h k = list_at Two ls p (pred n) (pred n / 3) (pred n % 3) i f (omega arith) k (omega arith) (omega arith) (omega arith)

-- ---- the right directory: so many rows, and the closing record
pub directory_is : (e : Edition) (p : ℕ) (ls : List Layer) → directory_of e p ls ≡ map (row e) (shared (per_record e) (round_up (length ls) (per_record e)) ls) ++ (closing e p (length ls) ∷ [])
unfolding directory_of
directory_is e p ls = refl

rows-length : (e : Edition) (n : ℕ) (ls : List Layer) → length (map (row e) (shared (per_record e) n ls)) ≡ n
rows-length e n ls = length-map (shared (per_record e) n ls) (row e) ∙ length-shared (per_record e) n ls

pub length_directory : (e : Edition) (p : ℕ) (ls : List Layer) → length (directory_of e p ls) ≡ round_up (length ls) (per_record e) + 1
length_directory e p ls = ap length (directory_is e p ls) ∙ length-append (map (row e) (shared (per_record e) (round_up (length ls) (per_record e)) ls)) (closing e p (length ls) ∷ []) ∙ ap (λ (n : ℕ). n + 1) (rows-length e (round_up (length ls) (per_record e)) ls)

pub row_at : (e : Edition) (p : ℕ) (ls : List Layer) (i : ℕ) → i < round_up (length ls) (per_record e) → get_or (directory_of e p ls) i [] ≡ row e (take (per_record e) (drop (per_record e * i) ls))
row_at e p ls i h = ap (λ (x : List (List ℕ)). get_or x i []) (directory_is e p ls) ∙ get_d_rows e (shared (per_record e) (round_up (length ls) (per_record e)) ls) i (closing e p (length ls) ∷ []) (omega (arith, length-shared (per_record e) (round_up (length ls) (per_record e)) ls)) ∙ ap (row e) (get_or-shared (per_record e) (round_up (length ls) (per_record e)) ls i h)

pub closing_at : (e : Edition) (p : ℕ) (ls : List Layer) (rows : ℕ) → rows ≡ round_up (length ls) (per_record e) → drop rows (directory_of e p ls) ≡ closing e p (length ls) ∷ []
closing_at e p ls rows q = ap (drop rows) (directory_is e p ls) ∙ drop_at (map (row e) (shared (per_record e) (round_up (length ls) (per_record e)) ls)) (closing e p (length ls) ∷ []) rows (rows-length e (round_up (length ls) (per_record e)) ls ∙ sym q)
