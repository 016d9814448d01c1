-- A layout as the code lists it: start and width of every column; and its table, of its columns but text, with what stands in each, and the least
-- and the greatest number allowed. Assumes nothing.
use Rattle.std.specs.Prelude.{◌≡◌, Bool, true, false, cond, ℕ, ◌-◌, ◌^◌, min, max, ℤ, pos}
use mathlib.Core.List.{List, [], ◌∷◌, map, foldr}
use Rattle.std.specs.Int.Signed.{le_z}
use Rattle.format.specs.Basics.{minus}
use Rattle.format.specs.Column.{fits}
use Rattle.format.specs.Layout.{Rule, any_sign, at_least, range, within, one_of, is_one, inside, What, text, blank, integral, integral_or_spaces, Col}
use Rattle.layouts.specs.declared.Span.{Span}
use Rattle.layouts.specs.declared.Form.{Form}
use Rattle.layouts.specs.declared.TableColumn.{TableColumn}

-- "Layout types own width and start constants for their columns"
unfoldable pub spans_of : List Col → List Span
spans_of l = map (λ (c : Col). (c.start, c.width)) l

-- the columns of the table, in the order of the layout: all but text, of which nothing is asked
abbrev pub is_tabled : What → Bool
is_tabled text = false
is_tabled blank = true
is_tabled (integral rule) = true
is_tabled integral_or_spaces = true

unfoldable pub tabled : List Col → List Col
tabled [] = []
tabled (c ∷ cs) = cond (is_tabled c.what) (c ∷ tabled cs) (tabled cs)

-- the least and the greatest number that a rule allows in a column of this width: of any sign, what the width holds, a minus taking one
-- byte of it; of a list, its ends. What they are stands below; and `inside-between` of proofs/Ranges shows that a column is inside its rule exactly
-- when it lies between the two and, where the rule is a list, is one of it
abbrev pub low : Rule → ℕ → ℤ
low any_sign w = minus (10 ^ (w - 1) - 1)
low (at_least n) w = pos n
low (range n m) w = pos n
low (within n) w = minus n
low (one_of ns) w = pos (foldr min (10 ^ w - 1) ns)

abbrev pub high : Rule → ℕ → ℤ
high any_sign w = pos (10 ^ w - 1)
high (at_least n) w = pos (10 ^ w - 1)
high (range n m) w = pos m
high (within n) w = pos n
high (one_of ns) w = pos (foldr max 0 ns)

-- what a list asks beside its ends
abbrev pub listed : Rule → ℤ → Bool
listed any_sign z = true
listed (at_least n) z = true
listed (range n m) z = true
listed (within n) z = true
listed (one_of ns) z = is_one z ns

-- a column's rule; one that is no integer has none, and nothing is outside that
abbrev pub rule_of : What → Rule
rule_of text = any_sign
rule_of blank = any_sign
rule_of (integral rule) = rule
rule_of integral_or_spaces = any_sign

-- the columns that may hold a number; of the others the table says 0
abbrev pub is_numeric : What → Bool
is_numeric text = false
is_numeric blank = false
is_numeric (integral rule) = true
is_numeric integral_or_spaces = true

abbrev pub low_in : Col → ℤ
low_in c = cond (is_numeric c.what) (low (rule_of c.what) c.width) (pos 0)

abbrev pub high_in : Col → ℤ
high_in c = cond (is_numeric c.what) (high (rule_of c.what) c.width) (pos 0)

-- the least number, and the greatest, that a column may hold: it fits the width and is inside the rule, and of all such numbers none is less, or greater
pub record Least (rule : Rule) (width : ℕ) (low : ℤ) : Type 0 where
  pub fits_width : fits width low ≡ true
  pub allowed : inside rule low ≡ true
  pub none_less : (z : ℤ) → fits width z ≡ true → inside rule z ≡ true → le_z low z ≡ true

pub record Greatest (rule : Rule) (width : ℕ) (high : ℤ) : Type 0 where
  pub fits_width : fits width high ≡ true
  pub allowed : inside rule high ≡ true
  pub none_greater : (z : ℤ) → fits width z ≡ true → inside rule z ≡ true → le_z z high ≡ true

-- so it is for each column of a list that may hold a number
pub data LeastEach : List Col → List ℤ → Type 0 where
  least-none : LeastEach [] []
  least_more : {c : Col} {cs : List Col} {z : ℤ} {zs : List ℤ} → (is_numeric c.what ≡ true → Least (rule_of c.what) c.width z) → LeastEach cs zs → LeastEach (c ∷ cs) (z ∷ zs)

pub data GreatestEach : List Col → List ℤ → Type 0 where
  greatest-none : GreatestEach [] []
  greatest-more : {c : Col} {cs : List Col} {z : ℤ} {zs : List ℤ} → (is_numeric c.what ≡ true → Greatest (rule_of c.what) c.width z) → GreatestEach cs zs → GreatestEach (c ∷ cs) (z ∷ zs)

-- a layout's table: each of its columns but text, with what stands in it and its least and greatest number. Text is in no table; like a blank, it is
-- neither judged nor changed
abbrev pub table_form : What → Form
table_form text = Form.Blank
table_form blank = Form.Blank
table_form (integral rule) = Form.Integer
table_form integral_or_spaces = Form.IntegerOrSpaces

abbrev pub table_column : Col → TableColumn
table_column c = record { start = c.start; width = c.width; form = table_form c.what; low = low_in c; high = high_in c }

unfoldable pub table_of : List Col → List TableColumn
table_of l = map table_column l

-- what `table` answers of a layout, and what its limits are for each of its columns that may hold a number
pub record Table (layout : List Col) (table : List TableColumn) : Type 0 where
  pub are : table ≡ table_of (tabled layout)
  pub least : LeastEach (tabled layout) (map (λ (c : TableColumn). c.low) table)
  pub greatest : GreatestEach (tabled layout) (map (λ (c : TableColumn). c.high) table)
