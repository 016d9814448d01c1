-- What callers cite: what a block that was read as an item is, and one that was not. Assumes nothing.
use mathlib.Core.Path.{◌≡◌, refl, sym, ◌∙◌, ap}
use mathlib.Core.Bool.{Bool, true, false, cond, not}
use mathlib.Core.List.{List, [], ◌∷◌, map}
use Prim.Native.Nat.{ℕ, ◌≤◌}
use native.Mathlib.Omega.{arith}
use borrow.Author.Tests.{not-true}
use lib.Dec.{eqb}
use lib.ListN.{get_or}
use Rattle.format.specs.Basics.{Answer, given, refused, unless, fine}
use Rattle.format.specs.Record.{is_head, count_index, nothing, View, view}
use Rattle.format.specs.Judge.{walk}
use Rattle.format.specs.Edit.{BlockItem, item_in, block_item, absent, is_block, fault12, block_of}
use Rattle.format.proofs.Basics.{and-true}
use Rattle.format.proofs.EditInsert.{fine-none}
use Rattle.format.proofs.JudgeWalks.{Good, good, walk-passes}
use Rattle.std.specs.Prelude.{Option, Some, None}
use Rattle.format.specs.declared.BlockItem as Declared
use Rattle.format.specs.Answers.{block_answer}
use Rattle.edit_block.proofs.Items.{item-low, item-high}

-- the views of one item, of this kind and level
pub record OneItem (views : List View) (kind level : ℕ) : Type 0 where
  pub no_fault : fault12 views ≡ 0
  pub kind_is : kind ≡ count_index (get_or views 0 absent).kind
  pub level_is : level ≡ (get_or views 0 absent).level
  pub low : 2 ≤ level
  pub high : level ≤ 9
  pub kind-most : kind ≤ 9

abbrev placed : (index level : ℕ) → Answer BlockItem
placed index level = given (record { count_index = index; level = level })

abbrev item_of : Answer BlockItem → BlockItem
item_of (given i) = i
item_of (refused n r) = record { count_index = 0; level = 0 }

abbrev no_item : Answer BlockItem
no_item = refused 12 0

is_item_lem : (v : View) (ds : List View) (kind level : ℕ) → is_block v ds ≡ true → placed kind level ≡ placed (count_index v.kind) v.level → OneItem (v ∷ ds) kind level
is_item_lem v ds kind level t e =
    let a = and-true (not (is_head v.kind)) _ t in
    let b = and-true (fine (walk 8 0 nothing 0 0 (v ∷ ds))) _ a.1 in
    let g : Good 8 v = good 8 nothing v (walk-passes 8 0 nothing 0 0 (v ∷ ds) (fine-none _ b.0)).0.0 in
    let i : is_head v.kind ≡ false = not-true _ a.0 in
    let k : kind ≡ count_index v.kind = ap (λ (a : Answer BlockItem). (item_of a).count_index) e in
    let l : level ≡ v.level = ap (λ (a : Answer BlockItem). (item_of a).level) e in
    record { no_fault = rw t; kind_is = k; level_is = l; low = rw l (rw (item-low v.kind i) at g.low); high = rw l (rw (item-high v.kind i) at g.high); kind-most = rw k g.known }

item_of_lem : (views : List View) (kind level : ℕ) → placed kind level ≡ item_in views → OneItem views kind level
item_of_lem [] kind level e = let z : ◌≡◌ {A = ℕ} 0 1 = cc in absurd (omega arith)
item_of_lem (v ∷ ds) kind level e = go (is_block v ds) refl e
  where
    go : (t : Bool) → is_block v ds ≡ t → placed kind level ≡ cond (eqb (unless t 12) 0) (placed (count_index v.kind) v.level) no_item → OneItem (v ∷ ds) kind level
    go true p q = is_item_lem v ds kind level p q
    go false p q = let z : ◌≡◌ {A = ℕ} 0 1 = cc in absurd (omega arith)

none_of : (views : List View) → no_item ≡ item_in views → fault12 views ≡ 12
none_of [] e = refl
none_of (v ∷ ds) e = go (is_block v ds) e
  where
    go : (t : Bool) → no_item ≡ cond (eqb (unless t 12) 0) (placed (count_index v.kind) v.level) no_item → unless t 12 ≡ 12
    go true q = let z : ◌≡◌ {A = ℕ} 0 1 = cc in absurd (omega arith)
    go false q = refl

module _ (block : List ℕ) (answer : Option Declared.BlockItem) (is : block_answer answer ≡ block_item block) where
  pub read_item : (read : Declared.BlockItem) → answer ≡ Some read → OneItem (map view (block_of block)) read.kind read.level
  unfolding block_item block_answer
  read_item read e = item_of_lem (map view (block_of block)) read.kind read.level (ap block_answer (sym e) ∙ is)

  pub read_none : answer ≡ None → fault12 (map view (block_of block)) ≡ 12
  unfolding block_item block_answer
  read_none e = none_of (map view (block_of block)) (ap block_answer (sym e) ∙ is)
