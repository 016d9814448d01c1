-- What callers cite. A record without fault is 84 bytes long, its columns are well formed and inside their rules. A named integer column of it
-- reads as a value, which is the layout's number of that name. Assumes nothing.
--
-- Which column: `find name table ≡ I name start width rule`, which is `refl` with `unfolding find` and the table's name; and that it lies in a
-- record, a test that computes.
use mathlib.Core.Path.{◌≡◌, refl, ap, sym, ◌∙◌}
use mathlib.Core.Bool.{Bool, true, false, cond, ◌&&◌, false≢true}
use mathlib.Core.List.{List, [], ◌∷◌}
use Prim.Native.Nat.{ℕ, ◌+◌, ◌^◌, ◌≤◌, ◌<◌}
use Prim.Native.String.{String}
use native.Mathlib.Omega.{arith}
use borrow.Author.Tests.{eq-eqb, eqb-true}
use lib.Dec.{eqb, leb}
use lib.Text.{eqt}
use lib.IntN.{ℤ, pos, negsuc}
use lib.ListN.{length}
use Rattle.format.specs.declared.Column.{Column}
use Rattle.format.specs.declared.Column.TheVariants.{Value, MinusZero, Malformed}
use Rattle.format.specs.Basics.{first, unless}
use Rattle.format.specs.Column.{formed, integer, size, number_of}
use Rattle.format.specs.Layout.{Rule, any_sign, at_least, range, within, one_of, inside, Col, I, column, find, bytes_of, integer_at, number_at, is_formed, all_formed, is_inside, all_inside, column_fault}
use Rattle.format.proofs.Basics.{and-true, first_zero, unless_zero}
use Rattle.format.proofs.Columns.{number-below, other_tag}
use Rattle.columns.specs.InRecord.{column_at}
use Rattle.layout_faults.specs.Faults.{fault_in}
use Rattle.layout_faults.proofs.Tables.{says, width_is}

-- ---- A RECORD WITHOUT FAULT

module _ (table : List Col) (l : List ℕ) where
  pub fault_in_record : length l ≡ 84 → fault_in table l ≡ column_fault table l
  unfolding fault_in
  fault_in_record e = rw (eq-eqb (length l) 84 e)

  pub fault-at-most : fault_in table l ≤ 6
  unfolding fault_in column_fault
  fault-at-most = go (eqb (length l) 84) (all_formed table l) (all_inside table l)
    where
      go : (t f i : Bool) → cond t (first (unless f 5) (unless i 6)) 5 ≤ 6
      go true true true = omega arith
      go true true false = omega arith
      go true false i = omega arith
      go false f i = omega arith

  module _ (none : fault_in table l ≡ 0) where
    pub whole_record : length l ≡ 84
    unfolding fault_in
    whole_record = go (eqb (length l) 84) refl none
      where
        go : (t : Bool) → eqb (length l) 84 ≡ t → cond t (column_fault table l) 5 ≡ 0 → length l ≡ 84
        go true e k = eqb-true (length l) 84 e
        go false e k = absurd (omega arith)

    pub no_column_fault : column_fault table l ≡ 0
    no_column_fault = sym (fault_in_record whole_record) ∙ none

    pub all-formed : all_formed table l ≡ true
    unfolding column_fault
    all-formed = unless_zero (all_formed table l) 4 (first_zero (unless (all_formed table l) 5) (unless (all_inside table l) 6) no_column_fault).0

    pub all-inside : all_inside table l ≡ true
    unfolding column_fault
    all-inside = unless_zero (all_inside table l) 5 (first_zero (unless (all_formed table l) 5) (unless (all_inside table l) 6) no_column_fault).1

-- ---- A NAMED COLUMN

-- a name that no column has stands for a blank one, of which nothing is asked
formed-find : (name : String) (l : List ℕ) (table : List Col) → all_formed table l ≡ true → is_formed (find name table).what (bytes_of (find name table) l) ≡ true
unfolding find all_formed
formed-find name l [] h = refl
formed-find name l (c ∷ cs) h = let p = and-true (is_formed c.what (bytes_of c l)) (all_formed cs l) h in go (eqt name c.name) p.0 (formed-find name l cs p.1)
  where
    go : (t : Bool) → is_formed c.what (bytes_of c l) ≡ true → is_formed (find name cs).what (bytes_of (find name cs) l) ≡ true → is_formed (cond t c (find name cs)).what (bytes_of (cond t c (find name cs)) l) ≡ true
    go true f r = f
    go false f r = r

inside-find : (name : String) (l : List ℕ) (table : List Col) → all_inside table l ≡ true → is_inside (find name table).what (bytes_of (find name table) l) ≡ true
unfolding find all_inside
inside-find name l [] h = refl
inside-find name l (c ∷ cs) h = let p = and-true (is_inside c.what (bytes_of c l)) (all_inside cs l) h in go (eqt name c.name) p.0 (inside-find name l cs p.1)
  where
    go : (t : Bool) → is_inside c.what (bytes_of c l) ≡ true → is_inside (find name cs).what (bytes_of (find name cs) l) ≡ true → is_inside (cond t c (find name cs)).what (bytes_of (cond t c (find name cs)) l) ≡ true
    go true f r = f
    go false f r = r

-- rules that no negative number is inside of
abbrev pub never_negative : Rule → Bool
never_negative any_sign = false
never_negative (at_least n) = true
never_negative (range n m) = true
never_negative (within n) = false
never_negative (one_of ns) = true

not_negative : (rule : Rule) (z : ℤ) → never_negative rule ≡ true → inside rule z ≡ true → z ≡ pos (size z)
not_negative rule (pos n) t h = refl
not_negative any_sign (negsuc n) t h = absurd (false≢true t)
not_negative (at_least m) (negsuc n) t h = absurd (false≢true h)
not_negative (range m k) (negsuc n) t h = absurd (false≢true h)
not_negative (within m) (negsuc n) t h = absurd (false≢true t)
not_negative (one_of ns) (negsuc n) t h = absurd (false≢true h)

has-number : (c : Column) → formed c ≡ true → c ≡ Value (integer c)
has-number (Value z) h = refl
has-number MinusZero h = absurd (false≢true h)
has-number Malformed h = absurd (false≢true h)

module _ (table : List Col) (name : String) (start width : ℕ) (rule : Rule) (named : find name table ≡ I name start width rule) (room : leb width 18 && leb (start + width) 84 ≡ true) (l : List ℕ) where
  -- of any record
  module _ (whole : length l ≡ 84) where
    narrow : leb width 18 ≡ true
    narrow = (and-true (leb width 18) (leb (start + width) 84) room).0

    ends : leb (start + width) 84 ≡ true
    ends = (and-true (leb width 18) (leb (start + width) 84) room).1

    pub integer_is : integer_at table name l ≡ integer (column_at l start width)
    unfolding integer_at
    integer_is = rw (named, says l whole start width narrow ends)

    pub number_is : number_at table name l ≡ number_of (column_at l start width)
    unfolding number_at
    number_is = rw (named, says l whole start width narrow ends)

    pub number_small : number_at table name l < 10 ^ width
    unfolding number_at
    number_small = rw named (rw (width_is l whole start width narrow ends) at (number-below (column start width l)))

    -- what was read, c, had a value, z
    pub value_is : (c : Column) (z : ℤ) → c ≡ column_at l start width → c ≡ Value z → z ≡ integer_at table name l
    value_is c z e v = rw (integer_is, ← e, v)

  -- of a record without fault
  module _ (none : fault_in table l ≡ 0) where
    pub is_formed_lem : formed (column_at l start width) ≡ true
    is_formed_lem =
        let whole = whole_record table l none in
        rw (says l whole start width (narrow whole) (ends whole)) (rw named at (formed-find name l table (all-formed table l none)))

    pub value_at : column_at l start width ≡ Value (integer_at table name l)
    value_at = has-number (column_at l start width) is_formed_lem ∙ ap Value (sym (integer_is (whole_record table l none)))

    pub integer-inside : inside rule (integer_at table name l) ≡ true
    unfolding integer_at
    integer-inside = rw named (rw named at (inside-find name l table (all-inside table l none)))

    -- the other way of `let Column::Value(z) = .. else` is not taken
    pub never_malformed : (c : Column) → c ≡ column_at l start width → ((z : ℤ) → c ≡ Value z → ⊥) → ⊥
    never_malformed c e o = false≢true (sym (other_tag c o) ∙ rw e is_formed_lem)

    module _ (natural : never_negative rule ≡ true) where
      pub integer-natural : integer_at table name l ≡ pos (number_at table name l)
      unfolding integer_at number_at
      integer-natural = not_negative rule (integer_at table name l) natural integer-inside

      pub number-at : column_at l start width ≡ Value (pos (number_at table name l))
      number-at = value_at ∙ ap Value integer-natural

      pub number-inside : inside rule (pos (number_at table name l)) ≡ true
      number-inside = rw integer-natural at integer-inside

      pub number_read : (c : Column) (z : ℤ) → c ≡ column_at l start width → c ≡ Value z → z ≡ pos (number_at table name l)
      number_read c z e v = value_is (whole_record table l none) c z e v ∙ integer-natural
