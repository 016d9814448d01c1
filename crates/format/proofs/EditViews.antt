-- Edits of the views of records, which the proofs follow. Assumes nothing.
use mathlib.Core.Bool.{cond}
use mathlib.Core.List.{List, [], ◌∷◌, ◌++◌}
use Prim.Native.Nat.{ℕ, zero, suc, pred, ◌+◌, ◌-◌}
use lib.Dec.{eqb}
use lib.ListN.{length, drop, get_or}
use Rattle.format.specs.Record.{View, Data, count_index}
use Rattle.format.specs.Judge.{File}
use Rattle.format.specs.Edit.{above_in, absent, before, after, body_place}

abbrev pub alter : (View → View) → ℕ → List View → List View
alter f i [] = []
alter f zero (r ∷ rs) = f r ∷ rs
alter f (suc i) (r ∷ rs) = r ∷ alter f i rs

-- one more, one less, of kind j in a header; w is what it says as a data record, which no header is asked
abbrev pub more : (Data → ℕ → ℕ) → ℕ → View → View
more w j r = record { kind = r.kind; level = r.level; data_records = r.data_records; data_held = r.data_held; column_fault = r.column_fault; rule_fault = r.rule_fault; fault_as_data = w; total = r.total + 1; count = λ k. cond (eqb k j) (r.count k + 1) (r.count k) }

abbrev pub less : (Data → ℕ → ℕ) → ℕ → View → View
less w j r = record { kind = r.kind; level = r.level; data_records = r.data_records; data_held = r.data_held; column_fault = r.column_fault; rule_fault = r.rule_fault; fault_as_data = w; total = r.total - 1; count = λ k. cond (eqb k j) (r.count k - 1) (r.count k) }

abbrev pub change : (ℕ → View → View) → View → List View → List View
change g b pre = alter (g (count_index b.kind)) (pred (above_in b.level pre)) pre

abbrev pub with_body : File → ℕ → List View → File
with_body f e b = record { part_length = f.part_length; stated_elements = e; stated_records = length b; body = b }

module _ (f : File) (p : ℕ) where
  abbrev pub put : (Data → ℕ → ℕ) → List View → File
  put w blk = with_body f (f.stated_elements + 1) (change (more w) (get_or blk 0 absent) (before f p) ++ (blk ++ after f p))

  abbrev pub gone : View
  gone = get_or f.body (body_place f p) absent

  abbrev pub cut : (Data → ℕ → ℕ) → File
  cut w = with_body f (f.stated_elements - 1) (change (less w) gone (before f p) ++ drop (suc gone.data_records) (after f p))
