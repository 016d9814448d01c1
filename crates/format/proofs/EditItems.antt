-- One item more, or one less, in an accepted body: it is accepted. Assumes nothing.
use mathlib.Core.Path.{◌≡◌, refl, ◌∙◌}
use mathlib.Core.Bool.{true, false, true≢false}
use mathlib.Core.List.{List, [], ◌∷◌, ◌++◌, append_assoc}
use Prim.Native.Nat.{ℕ, zero, suc, pred, ◌+◌, ◌≤◌, ◌<◌}
use native.Mathlib.Omega.{arith}
use lib.ListN.{length, length-append}
use borrow.Author.Tests.{le-leb}
use Rattle.format.specs.Record.{Data, Kind, View, head, is_head, item, neither, nothing, count_index}
use Rattle.format.specs.Above.{NoHeaderOf}
use Rattle.format.specs.Judge.{fault_at, headers_and_items, items, due_after, lowest_level, one_if_item, open_after}
use Rattle.format.specs.Edit.{not_below, due_behind, open_behind}
use Rattle.format.proofs.JudgeWalks.{Passes, good, reopen, sort, headers_and_items-append, due_behind-append, open_behind-append, passes-split, passes-join}
use Rattle.format.proofs.JudgeCounts.{Counted, OneMore, counts_up, counts_down}
use Rattle.format.proofs.Above.{data_records-head}

pub items-append : (a b : List View) → items (a ++ b) ≡ items a + items b
items-append [] b = omega arith
items-append (r ∷ a) b = omega (arith, items-append a b)

-- data records change nothing but what is left
pub due_behind_data : (n : ℕ) (ds : List View) → length ds ≡ n → due_behind n ds ≡ 0
due_behind_data zero [] e = refl
due_behind_data (suc n) [] e = absurd (omega arith)
due_behind_data zero (d ∷ ds) e = absurd (omega arith)
due_behind_data (suc n) (d ∷ ds) e = due_behind_data n ds (omega arith)

pub open_behind_data : (o n : ℕ) (ds : List View) → length ds ≡ n → open_behind o n ds ≡ o
open_behind_data o zero [] e = refl
open_behind_data o (suc n) [] e = refl
open_behind_data o zero (d ∷ ds) e = absurd (omega arith)
open_behind_data o (suc n) (d ∷ ds) e = open_behind_data o n ds (omega arith)

pub headers_and_items_data : (n : ℕ) (ds s : List View) → length ds ≡ n → headers_and_items n (ds ++ s) ≡ headers_and_items 0 s
headers_and_items_data zero [] s e = refl
headers_and_items_data (suc n) [] s e = absurd (omega arith)
headers_and_items_data zero (d ∷ ds) s e = absurd (omega arith)
headers_and_items_data (suc n) (d ∷ ds) s e = headers_and_items_data n ds s (omega arith)

pub item-data_records : (b : View) → is_head b.kind ≡ false → due_after 0 b ≡ b.data_records
item-data_records b e = rw e

pub item_open : (o : ℕ) (b : View) → is_head b.kind ≡ false → open_after o 0 b ≡ pred b.level
item_open o b e = rw e

pub item-low : (b : View) → is_head b.kind ≡ false → lowest_level b.kind ≡ 2
item-low b e = rw e

-- two records that differ in their counts alone
pub record Alike (h h' : View) : Type 0 where
  pub kinds : h'.kind ≡ h.kind
  pub levels : h'.level ≡ h.level
  pub needs : h'.data_records ≡ h.data_records
  pub data_as : h'.data_held ≡ h.data_held
  pub flaws : h'.column_fault ≡ h.column_fault
  pub rules : h'.rule_fault ≡ h.rule_fault

module _ (h h' : View) (a : Alike h h') where
  codes : (o : ℕ) (s : Data) → fault_at o 0 s h' ≡ fault_at o 0 s h
  codes o s = rw (a.kinds, a.levels, a.flaws, a.rules)

  pub open_after_as : (o : ℕ) → open_after o 0 h' ≡ open_after o 0 h
  open_after_as o = rw (a.kinds, a.levels)

  pub due_after_as : due_after 0 h' ≡ due_after 0 h
  due_after_as = rw (a.kinds, a.needs)

  pub passes_alike : (o : ℕ) (s : Data) (F X : List View) → due_behind 0 F ≡ 0 → Passes o 0 s (F ++ h ∷ X) → Passes o 0 s (F ++ h' ∷ X)
  passes_alike o s F X e p = passes-join o 0 s F (h' ∷ X) q.0 (rw e (rw (codes _ _) q'.0, rw (open_after_as (open_behind o 0 F), due_after_as, a.data_as) q'.1))
    where
      q : Passes o 0 s F × Passes (open_behind o 0 F) (due_behind 0 F) (sort 0 s F) (h ∷ X)
      q = passes-split o 0 s F (h ∷ X) p

      q' : Passes (open_behind o 0 F) 0 (sort 0 s F) (h ∷ X)
      q' = rw e at q.1

  pub due_behind_alike : (F X : List View) → due_behind 0 F ≡ 0 → due_behind 0 (F ++ h' ∷ X) ≡ due_behind 0 (F ++ h ∷ X)
  due_behind_alike F X e = rw (due_behind-append 0 F (h' ∷ X), due_behind-append 0 F (h ∷ X), e, due_after_as)

  pub open_behind_alike : (o : ℕ) (F X : List View) → due_behind 0 F ≡ 0 → open_behind o 0 (F ++ h' ∷ X) ≡ open_behind o 0 (F ++ h ∷ X)
  open_behind_alike o F X e = rw (open_behind-append o 0 F (h' ∷ X), open_behind-append o 0 F (h ∷ X), e, open_after_as (open_behind o 0 F), due_after_as)

-- what can follow a record that opens o can follow one that opens more
pub passes_near : (o o' : ℕ) (s : Data) (S : List View) → o ≤ o' → Passes o 0 s S → not_below (suc o') S ≡ true
passes_near o o' s [] l p = refl
passes_near o o' s (r ∷ S) l p = le-leb r.level (suc o') (omega (arith, (good o s r p.0).near))

pub not_below_eq : (l l' : ℕ) (S : List View) → l ≡ l' → not_below l S ≡ true → not_below l' S ≡ true
not_below_eq l l' S e n = rw e at n

-- a block, wherever it stands
module _ (b : View) (ds : List View) (bi : is_head b.kind ≡ false) (bn : length ds ≡ b.data_records) where
  pub open_behind_block : (o : ℕ) → open_behind o 0 (b ∷ ds) ≡ pred b.level
  open_behind_block o = rw (item_open o b bi, item-data_records b bi) (open_behind_data (pred b.level) b.data_records ds bn)

  pub due_behind_block : due_behind 0 (b ∷ ds) ≡ 0
  due_behind_block = rw (item-data_records b bi) (due_behind_data b.data_records ds bn)

  pub low_block : (o : ℕ) (s : Data) (X : List View) → Passes o 0 s (b ∷ X) → 2 ≤ b.level
  low_block o s X p = rw (item-low b bi) at (good o s b p.0).low

  pub near_block : (o : ℕ) (s : Data) (X : List View) → Passes o 0 s (b ∷ X) → b.level ≤ suc o
  near_block o s X p = (good o s b p.0).near

  -- in between: from a place of open level o
  pub block_in : (o : ℕ) (s t : Data) (S : List View) → Passes 8 0 nothing (b ∷ ds) → b.level ≤ suc o → not_below b.level S ≡ true → Passes o 0 t S → Passes o 0 s (b ∷ ds ++ S)
  block_in o s t S w near below p = passes-join o 0 s (b ∷ ds) S (reopen 8 o nothing s (b ∷ ds) (le-leb b.level (suc o) near) w) (rw (open_behind_block o, due_behind_block) (reopen o (pred b.level) t _ S (not_below_eq b.level _ S (omega (arith, low_block 8 nothing ds w)) below) p))

  pub block_out : (o : ℕ) (s t : Data) (S : List View) → Passes o 0 s (b ∷ ds ++ S) → Passes o 0 t S
  block_out o s t S p = reopen (pred b.level) o _ t S (passes_near (pred b.level) o _ S (omega (arith, near_block o s (ds ++ S) p)) after) after
    where
      after : Passes (pred b.level) 0 (sort 0 s (b ∷ ds)) S
      after = rw (open_behind_block o, due_behind_block) at (passes-split o 0 s (b ∷ ds) S p).1

-- a body cut at a header x: what stands before and behind it is whole
module _ (F B : List View) (cl_f : due_behind 0 F ≡ 0) (cl_b : due_behind 0 B ≡ 0) where
  pub due_behind_pre : (x : View) → is_head x.kind ≡ true → due_behind 0 (F ++ x ∷ B) ≡ 0
  due_behind_pre x e = rw (due_behind-append 0 F (x ∷ B), cl_f, data_records-head x e) cl_b

  pub headers_and_items_pre : (x : View) → is_head x.kind ≡ true → (X : List View) → headers_and_items 0 (F ++ x ∷ B ++ X) ≡ headers_and_items 0 F ++ x ∷ (headers_and_items 0 B ++ headers_and_items 0 X)
  headers_and_items_pre x e X = rw (headers_and_items-append 0 (F ++ x ∷ B) X, due_behind_pre x e, headers_and_items-append 0 F (x ∷ B), cl_f, data_records-head x e) (append_assoc (headers_and_items 0 F) (x ∷ headers_and_items 0 B) (headers_and_items 0 X))

  pub headers_and_items_with : (x : View) → is_head x.kind ≡ true → (b : View) (ds S : List View) → is_head b.kind ≡ false → length ds ≡ b.data_records → headers_and_items 0 (F ++ x ∷ B ++ (b ∷ ds ++ S)) ≡ headers_and_items 0 F ++ x ∷ (headers_and_items 0 B ++ b ∷ headers_and_items 0 S)
  headers_and_items_with x e b ds S bi bn = headers_and_items_pre x e (b ∷ ds ++ S) ∙ rw (item-data_records b bi, headers_and_items_data b.data_records ds S bn)

module _ (F : List View) (h h' : View) (B : List View) (b : View) (ds S : List View) (al : Alike h h') (m : OneMore (count_index b.kind) h h') (cl_f : due_behind 0 F ≡ 0) (cl_b : due_behind 0 B ≡ 0) (hh : is_head h.kind ≡ true) (clear : NoHeaderOf h.level (headers_and_items 0 B)) (bi : is_head b.kind ≡ false) (bl : b.level ≡ suc h.level) (bn : length ds ≡ b.data_records) (small : count_index b.kind < 10) where
  hh' : is_head h'.kind ≡ true
  hh' = rw al.kinds hh

  abbrev old : List View
  old = F ++ h ∷ B ++ S

  abbrev new : List View
  new = F ++ h' ∷ B ++ (b ∷ ds ++ S)

  headers_and_items_old : headers_and_items 0 old ≡ headers_and_items 0 F ++ h ∷ (headers_and_items 0 B ++ headers_and_items 0 S)
  headers_and_items_old = headers_and_items_pre F B cl_f cl_b h hh S

  headers_and_items_new : headers_and_items 0 new ≡ headers_and_items 0 F ++ h' ∷ (headers_and_items 0 B ++ b ∷ headers_and_items 0 S)
  headers_and_items_new = headers_and_items_with F B cl_f cl_b h' hh' b ds S bi bn

  pub grow_counted : Counted (headers_and_items 0 old) → Counted (headers_and_items 0 new)
  grow_counted c = rw headers_and_items_new (counts_up (headers_and_items 0 F) h h' (headers_and_items 0 B) b (headers_and_items 0 S) hh bi bl m clear small (rw headers_and_items_old at c))

  pub shrink_counted : Counted (headers_and_items 0 new) → Counted (headers_and_items 0 old)
  shrink_counted c = rw headers_and_items_old (counts_down (headers_and_items 0 F) h h' (headers_and_items 0 B) b (headers_and_items 0 S) hh bi bl m clear small (rw headers_and_items_new at c))

  pub grow_items : items (headers_and_items 0 new) ≡ items (headers_and_items 0 old) + 1
  grow_items = rw (headers_and_items_old, headers_and_items_new) (simp (items-append, al.kinds) (omega (arith, one_item)))
    where
      one_item : one_if_item b.kind ≡ 1
      one_item = go b.kind bi
        where
          go : (k : Kind) → is_head k ≡ false → one_if_item k ≡ 1
          go head e = absurd (true≢false e)
          go (item k) e = refl
          go neither e = refl

  pub grow_length : length new ≡ length old + suc b.data_records
  grow_length = simp length-append (omega arith)

  pub grow_passes : Passes 0 0 nothing old → Passes 8 0 nothing (b ∷ ds) → b.level ≤ suc (open_behind 0 0 (F ++ h ∷ B)) → not_below b.level S ≡ true → Passes 0 0 nothing new
  grow_passes p w near below = passes-join 0 0 nothing (F ++ h' ∷ B) (b ∷ ds ++ S) (passes_alike h h' al 0 nothing F B cl_f q.0) (rw (due_behind_pre F B cl_f cl_b h' hh', open_behind_alike h h' al 0 F B cl_f) (block_in b ds bi bn _ (sort 0 nothing (F ++ h' ∷ B)) (sort 0 nothing (F ++ h ∷ B)) S w near below (rw (due_behind_pre F B cl_f cl_b h hh) at q.1)))
    where
      q : Passes 0 0 nothing (F ++ h ∷ B) × Passes (open_behind 0 0 (F ++ h ∷ B)) (due_behind 0 (F ++ h ∷ B)) (sort 0 nothing (F ++ h ∷ B)) S
      q = passes-split 0 0 nothing (F ++ h ∷ B) S p

  pub shrink_passes : Alike h' h → Passes 0 0 nothing new → Passes 0 0 nothing old
  shrink_passes la p = passes-join 0 0 nothing (F ++ h ∷ B) S (passes_alike h' h la 0 nothing F B cl_f q.0) (rw (due_behind_pre F B cl_f cl_b h hh) (block_out b ds bi bn _ (sort 0 nothing (F ++ h' ∷ B)) _ S (rw (due_behind_pre F B cl_f cl_b h' hh', open_behind_alike h h' al 0 F B cl_f) at q.1)))
    where
      q : Passes 0 0 nothing (F ++ h' ∷ B) × Passes (open_behind 0 0 (F ++ h' ∷ B)) (due_behind 0 (F ++ h' ∷ B)) (sort 0 nothing (F ++ h' ∷ B)) (b ∷ ds ++ S)
      q = passes-split 0 0 nothing (F ++ h' ∷ B) (b ∷ ds ++ S) p

  pub grow_due_behind : due_behind 0 new ≡ due_behind 0 old
  grow_due_behind = rw (due_behind-append 0 (F ++ h' ∷ B) (b ∷ ds ++ S), due_behind-append 0 (F ++ h ∷ B) S, due_behind_pre F B cl_f cl_b h hh, due_behind_pre F B cl_f cl_b h' hh', due_behind-append 0 (b ∷ ds) S, due_behind_block b ds bi bn)
