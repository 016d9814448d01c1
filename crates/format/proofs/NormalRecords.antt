-- One record in normal form: its judged columns, and every other byte. Assumes nothing.
use mathlib.Core.Path.{◌≡◌, refl, ap, sym, ◌∙◌}
use mathlib.Core.Bool.{Bool, true, false, cond, ◌&&◌, ◌||◌, false≢true}
use mathlib.Core.Logic.{◌⊎◌, inl, inr}
use mathlib.Core.List.{List, [], ◌∷◌, ◌++◌}
use Prim.Native.Nat.{ℕ, zero, suc, ◌+◌, ◌≤◌, ◌<◌}
use native.Mathlib.Omega.{arith}
use lib.Dec.{eqb, leb}
use borrow.Author.Tests.{eqb-true}
use lib.ListN.{length, take, drop, get_or, take-append-drop}
use lib.Seq.{drop-drop}
use Rattle.format.specs.declared.Column.{Column}
use Rattle.format.specs.declared.Column.TheVariants.{Value, MinusZero, Malformed}
use Rattle.format.specs.Basics.{unless}
use Rattle.format.specs.Column.{column_of, formed, integer, written}
use Rattle.format.specs.Layout.{column_fault, What, text, blank, integral, integral_or_spaces, Col, column, splice, bytes_of, spaces, is_formed, all_formed, laid}
use Rattle.format.specs.Normal.{normal_bytes, normal_record}
use Rattle.format.specs.JudgedColumns.{WrittenAnew, ColumnNormal, EachColumn, is_integer, InNoInteger, Normalised}
use Rattle.format.proofs.Basics.{and-true, true_and, first_zero, unless_zero}
use Rattle.format.proofs.Columns.{length-written, length-splice, column-own, column-before, column-behind, length-column, byte_column}

-- ---- columns that lie end to end from `at` on, within 84 bytes
abbrev pub EndToEnd : (at : ℕ) → List Col → Type 0
EndToEnd at [] = at ≤ 84
EndToEnd at (c ∷ cs) = (c.start ≡ at) × EndToEnd (at + c.width) cs

pub within_84 : (at : ℕ) (cs : List Col) → EndToEnd at cs → at ≤ 84
within_84 at [] e = e
within_84 at (c ∷ cs) e = omega (arith, within_84 (at + c.width) cs e.1)

pub laid_end_to_end : (at : ℕ) (cs : List Col) → laid at cs ≡ 84 → EndToEnd at cs
laid_end_to_end at [] e = omega arith
laid_end_to_end at (c ∷ cs) e = at_test (eqb c.start at) refl e (laid_end_to_end (at + c.width) cs)
  where
    at_test : (t : Bool) → eqb c.start at ≡ t → cond t (laid (at + c.width) cs) 0 ≡ 84 → (laid (at + c.width) cs ≡ 84 → EndToEnd (at + c.width) cs) → EndToEnd at (c ∷ cs)
    at_test true p q ih = (eqb-true c.start at p, ih q)
    at_test false p q ih = absurd (omega arith)

-- the first columns of such a list do
take_end_to_end : (n at : ℕ) (cs : List Col) → EndToEnd at cs → EndToEnd at (take n cs)
take_end_to_end zero at cs e = within_84 at cs e
take_end_to_end (suc n) at [] e = e
take_end_to_end (suc n) at (c ∷ cs) e = (e.0, take_end_to_end n (at + c.width) cs e.1)

-- integer columns of at most 18 bytes
abbrev pub narrow : Col → Bool
narrow c = cond (is_integer c.what) (leb c.width 18) true

abbrev pub all_narrow : List Col → Bool
all_narrow [] = true
all_narrow (c ∷ cs) = narrow c && all_narrow cs

take_narrow : (n : ℕ) (cs : List Col) → all_narrow cs ≡ true → all_narrow (take n cs) ≡ true
take_narrow zero cs e = refl
take_narrow (suc n) [] e = refl
take_narrow (suc n) (c ∷ cs) e = let p = and-true (narrow c) (all_narrow cs) e in true_and _ _ p.0 (take_narrow n cs p.1)

-- what every list of judged columns is
pub record Table (cs : List Col) : Type 0 where
  pub end : EndToEnd 0 cs
  pub narrow : all_narrow cs ≡ true

pub take-table : (n : ℕ) (cs : List Col) → Table cs → Table (take n cs)
take-table n cs t = record { end = take_end_to_end n 0 cs t.end; narrow = take_narrow n cs t.narrow }

pub no_table : Table []
no_table = record { end = omega arith; narrow = refl }

-- ---- one column
in_written_form : (w : ℕ) (bs : List ℕ) → formed (column_of bs) ≡ true → WrittenAnew w bs (written w (integer (column_of bs)))
in_written_form w bs e = at-column (column_of bs) refl e
  where
    at-column : (c : Column) → column_of bs ≡ c → formed c ≡ true → WrittenAnew w bs (written w (integer c))
    at-column (Value z) p q = (z, (p, refl))
    at-column MinusZero p q = absurd (false≢true q)
    at-column Malformed p q = absurd (false≢true q)

column_normal : (what : What) (w : ℕ) (bs : List ℕ) → is_formed what bs ≡ true → ColumnNormal what w bs (normal_bytes what w bs)
column_normal text w bs e = refl
column_normal blank w bs e = refl
column_normal (integral rule) w bs e = in_written_form w bs e
column_normal integral_or_spaces w bs e = at_test (spaces bs) refl e
  where
    at_test : (t : Bool) → spaces bs ≡ t → t || formed (column_of bs) ≡ true → ((spaces bs ≡ true) × (cond t bs (written w (integer (column_of bs))) ≡ bs)) ⊎ ((spaces bs ≡ false) × WrittenAnew w bs (cond t bs (written w (integer (column_of bs)))))
    at_test true p q = inl (p, refl)
    at_test false p q = inr (p, in_written_form w bs q)

length_normal : (what : What) (w : ℕ) (bs : List ℕ) → length bs ≡ w → length (normal_bytes what w bs) ≡ w
length_normal text w bs e = e
length_normal blank w bs e = e
length_normal (integral rule) w bs e = length-written w (integer (column_of bs))
length_normal integral_or_spaces w bs e = at_test (spaces bs)
  where
    at_test : (t : Bool) → length (cond t bs (written w (integer (column_of bs)))) ≡ w
    at_test true = e
    at_test false = length-written w (integer (column_of bs))

-- ---- bytes of a record with a column written anew
-- a column written with its own bytes is as it was
pub splice-same : (s w : ℕ) (r : List ℕ) → splice s w (column s w r) r ≡ r
unfolding splice column
splice-same s w r = ap (λ (x : List ℕ). take s r ++ x) back ∙ take-append-drop s r
  where
    back : take w (drop s r) ++ drop (s + w) r ≡ drop s r
    back = rw (← drop-drop w s r) (take-append-drop w (drop s r))

-- ---- one record: the first column written anew, then the others
abbrev one : Col → List ℕ → List ℕ
one c r = splice c.start c.width (normal_bytes c.what c.width (bytes_of c r)) r

module _ (c : Col) (r : List ℕ) (room : c.start + c.width ≤ length r) where
  wide : length (normal_bytes c.what c.width (bytes_of c r)) ≡ c.width
  wide = length_normal c.what c.width (bytes_of c r) (length-column c.start c.width r room)

  one_length : length (one c r) ≡ length r
  one_length = length-splice c.start c.width _ r wide room

  one_own : bytes_of c (one c r) ≡ normal_bytes c.what c.width (bytes_of c r)
  one_own = column-own c.start c.width _ r wide room

  one_before : (a v : ℕ) → a + v ≤ c.start → column a v (one c r) ≡ column a v r
  one_before = column-before c.start c.width _ r wide room

  one_behind : (a v : ℕ) → c.start + c.width ≤ a → column a v (one c r) ≡ column a v r
  one_behind = column-behind c.start c.width _ r wide room

  plain : is_integer c.what ≡ false → one c r ≡ r
  plain = at-what c.what
    where
      at-what : (what : What) → is_integer what ≡ false → splice c.start c.width (normal_bytes what c.width (bytes_of c r)) r ≡ r
      at-what text e = splice-same c.start c.width r
      at-what blank e = splice-same c.start c.width r
      at-what (integral rule) e = absurd (false≢true (sym e))
      at-what integral_or_spaces e = absurd (false≢true (sym e))

  one_byte : (i : ℕ) → (is_integer c.what ≡ true → (i < c.start) ⊎ (c.start + c.width ≤ i)) → get_or (one c r) i 0 ≡ get_or r i 0
  one_byte i h = at_test (is_integer c.what) refl
    where
      apart : (i < c.start) ⊎ (c.start + c.width ≤ i) → get_or (one c r) i 0 ≡ get_or r i 0
      apart (inl l) = byte_column i (one c r) ∙ ap (λ (x : List ℕ). get_or x 0 0) (one_before i 1 (omega arith)) ∙ sym (byte_column i r)
      apart (inr l) = byte_column i (one c r) ∙ ap (λ (x : List ℕ). get_or x 0 0) (one_behind i 1 l) ∙ sym (byte_column i r)

      at_test : (t : Bool) → is_integer c.what ≡ t → get_or (one c r) i 0 ≡ get_or r i 0
      at_test true e = apart (h e)
      at_test false e = ap (λ (x : List ℕ). get_or x i 0) (plain e)

-- ---- a whole record
room_for : (at : ℕ) (c : Col) (cs : List Col) (r : List ℕ) → EndToEnd at (c ∷ cs) → length r ≡ 84 → c.start + c.width ≤ length r
room_for at c cs r e l = omega (arith, within_84 (at + c.width) cs e.1, e.0)

next-length : (at : ℕ) (c : Col) (cs : List Col) (r : List ℕ) → EndToEnd at (c ∷ cs) → length r ≡ 84 → length (one c r) ≡ 84
next-length at c cs r e l = one_length c r (room_for at c cs r e l) ∙ l

pub length-normal_record : (at : ℕ) (cs : List Col) (r : List ℕ) → EndToEnd at cs → length r ≡ 84 → length (normal_record cs r) ≡ 84
unfolding normal_record
length-normal_record at [] r e l = l
length-normal_record at (c ∷ cs) r e l = length-normal_record (at + c.width) cs (one c r) e.1 (next-length at c cs r e l)

-- what stands before the columns stays
before-kept : (at : ℕ) (cs : List Col) (r : List ℕ) → EndToEnd at cs → length r ≡ 84 → (a v : ℕ) → a + v ≤ at → column a v (normal_record cs r) ≡ column a v r
unfolding normal_record
before-kept at [] r e l a v h = refl
before-kept at (c ∷ cs) r e l a v h = before-kept (at + c.width) cs (one c r) e.1 (next-length at c cs r e l) a v (omega arith) ∙ one_before c r (room_for at c cs r e l) a v (omega (arith, e.0))

-- two records with the same bytes from `at` on
module _ (r x : List ℕ) where
  each_from : (at : ℕ) (cs : List Col) → EndToEnd at cs → ((a v : ℕ) → at ≤ a → column a v x ≡ column a v r) → (y : List ℕ) → EachColumn cs x y → EachColumn cs r y
  each_from at [] e same y k = tt
  each_from at (c ∷ cs) e same y k = (rw (same c.start c.width (omega (arith, e.0))) at k.0, each_from (at + c.width) cs e.1 (λ a v h. same a v (omega arith)) y k.1)

  formed-from : (at : ℕ) (cs : List Col) → EndToEnd at cs → ((a v : ℕ) → at ≤ a → column a v x ≡ column a v r) → all_formed cs r ≡ true → all_formed cs x ≡ true
  unfolding all_formed
  formed-from at [] e same k = refl
  formed-from at (c ∷ cs) e same k = rw (same c.start c.width (omega (arith, e.0)), formed-from (at + c.width) cs e.1 (λ a v h. same a v (omega arith)) q.1) (rw q.0)
    where
      q : (is_formed c.what (bytes_of c r) ≡ true) × (all_formed cs r ≡ true)
      q = and-true _ _ k

pub each_column : (at : ℕ) (cs : List Col) (r : List ℕ) → EndToEnd at cs → length r ≡ 84 → all_formed cs r ≡ true → EachColumn cs r (normal_record cs r)
unfolding normal_record all_formed
each_column at [] r e l f = tt
each_column at (c ∷ cs) r e l f = (rw own (column_normal c.what c.width (bytes_of c r) q.0), each_from r (one c r) (at + c.width) cs e.1 behind _ (each_column (at + c.width) cs (one c r) e.1 long (formed-from r (one c r) (at + c.width) cs e.1 behind q.1)))
  where
    q : (is_formed c.what (bytes_of c r) ≡ true) × (all_formed cs r ≡ true)
    q = and-true _ _ f

    room : c.start + c.width ≤ length r
    room = room_for at c cs r e l

    long : length (one c r) ≡ 84
    long = next-length at c cs r e l

    behind : (a v : ℕ) → at + c.width ≤ a → column a v (one c r) ≡ column a v r
    behind a v h = one_behind c r room a v (omega (arith, e.0))

    own : bytes_of c (normal_record cs (one c r)) ≡ normal_bytes c.what c.width (bytes_of c r)
    own = before-kept (at + c.width) cs (one c r) e.1 long c.start c.width (omega (arith, e.0)) ∙ one_own c r room

pub each_byte : (at : ℕ) (cs : List Col) (r : List ℕ) → EndToEnd at cs → length r ≡ 84 → (i : ℕ) → InNoInteger cs i → get_or (normal_record cs r) i 0 ≡ get_or r i 0
unfolding normal_record
each_byte at [] r e l i o = refl
each_byte at (c ∷ cs) r e l i o = each_byte (at + c.width) cs (one c r) e.1 (next-length at c cs r e l) i o.1 ∙ one_byte c r (room_for at c cs r e l) i o.0

-- A RECORD IN ORDER, AND ITS NORMAL FORM
pub normalised : (cs : List Col) (r : List ℕ) → Table cs → length r ≡ 84 → column_fault cs r ≡ 0 → Normalised cs r (normal_record cs r)
unfolding column_fault
normalised cs r t l f = record {
  long = length-normal_record 0 cs r t.end l ∙ sym l;
  judged = each_column 0 cs r t.end l (unless_zero _ _ (first_zero (unless (all_formed cs r) 5) _ f).0);
  others = each_byte 0 cs r t.end l;
}
