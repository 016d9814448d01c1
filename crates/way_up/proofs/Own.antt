-- The header or item that a record is, or is data of: it can be read, and the last header one level less before the record is the one before it. Assumes nothing.
use mathlib.Core.Path.{◌≡◌, refl, ap, sym, ◌∙◌}
use mathlib.Core.Bool.{Bool, true, false, cond, ◌&&◌}
use mathlib.Core.List.{List, [], ◌∷◌, ◌++◌, append_assoc}
use Prim.Native.Nat.{ℕ, zero, suc, pred, ◌+◌, ◌≤◌, ◌<◌}
use native.Mathlib.Omega.{arith}
use borrow.Author.Tests.{ne_eqb}
use lib.ListN.{length, take, drop, get_or, length-append, take-append-drop}
use lib.Seq.{get_or-append_seam, length-take-le}
use Rattle.format.specs.Record.{View, nothing, is_head}
use Rattle.format.specs.Judge.{due_after, is_header_at}
use Rattle.format.specs.Edit.{due_behind, open_behind, last_header, absent}
use Rattle.format.specs.Above.{own, level_at, above_at}
use Rattle.format.proofs.JudgeWalks.{Passes, Good}
use Rattle.format.proofs.AboveWayUp.{Owner, owner, Climbs, climbs, level-at, above_at_lem, r_good}
use Rattle.records.specs.Entry.{view_fault}
use Rattle.judge.proofs.PlaceLaws.{good_reads}

-- a header is one of the records
header-inside : (level due number latest last : ℕ) (rs : List View) → latest ≤ last → number + length rs ≤ suc last → last_header level due number latest rs ≤ last
header-inside level due number latest last [] before h = before
header-inside level zero number latest last (r ∷ rs) before h = header-inside level (due_after 0 r) (suc number) (cond (is_header_at level r) number latest) last rs (either (is_header_at level r)) (omega arith)
  where
    either : (t : Bool) → cond t number latest ≤ last
    either true = omega arith
    either false = before
header-inside level (suc due) number latest last (r ∷ rs) before h = header-inside level due (suc number) latest last rs before (omega arith)

-- data records are no headers
data_only : (level due number latest : ℕ) (rs : List View) → length rs ≤ due → last_header level due number latest rs ≡ latest
data_only level due number latest [] h = refl
data_only level zero number latest (r ∷ rs) h = absurd (omega arith)
data_only level (suc due) number latest (r ∷ rs) h = data_only level due (suc number) latest rs (omega arith)

-- so a header or item of another level, with its data, leaves the last header of this level as it was
past_own : (level due number latest : ℕ) (front : List View) (it : View) (back : List View) → due_behind due front ≡ 0 → is_header_at level it ≡ false → length back ≤ due_after 0 it → last_header level due number latest (front ++ it ∷ back) ≡ last_header level due number latest front
past_own level zero number latest [] it back closed other few = ap (λ (t : Bool). last_header level (due_after 0 it) (suc number) (cond t number latest) back) other ∙ data_only level (due_after 0 it) (suc number) latest back few
past_own level (suc due) number latest [] it back closed other few = absurd (omega arith)
past_own level zero number latest (r ∷ front) it back closed other few = past_own level (due_after 0 r) (suc number) _ front it back closed other few
past_own level (suc due) number latest (r ∷ front) it back closed other few = past_own level due (suc number) latest front it back closed other few

and-false : (b : Bool) → b && false ≡ false
and-false true = refl
and-false false = refl

-- ---- of the record at a place, counted from 1, in a body that passes
pub record OwnRecord (body : List View) (place : ℕ) : Type 0 where
  pub some : 1 ≤ own body place
  pub inside : own body place ≤ place
  pub reads : view_fault (get_or body (pred (own body place)) absent) ≡ 0
  pub above : above_at body place ≡ last_header (pred (level_at body place)) 0 1 0 (take place body)
  pub none_above : level_at body place ≡ 1 → above_at body place ≡ 0
  pub one_above : 1 < level_at body place → 0 < above_at body place
  pub low_above : above_at body place ≤ place
  pub least : 1 ≤ level_at body place
  pub most : level_at body place ≤ 9

module _ (body : List View) (passes : Passes 0 0 nothing body) (place : ℕ) (low : 0 < place) (high : place ≤ length body) where
  w : Owner 0 (take place body)
  w = owner (take place body) (omega (arith, length-take-le place body high))

  c : Climbs body place
  c = climbs body passes place low high

  is : body ≡ w.front ++ w.it ∷ (w.back ++ drop place body)
  is = sym (take-append-drop place body) ∙ ap (λ (l : List View). l ++ drop place body) w.whole ∙ append_assoc w.front (w.it ∷ w.back) (drop place body)

  own_is : own body place ≡ suc (length w.front)
  own_is = w.found 1 0 ∙ omega arith

  size : suc (length w.front) ≤ place
  size = omega (arith, length-take-le place body high, simp length-append at (ap length w.whole))

  it_is : get_or body (pred (own body place)) absent ≡ w.it
  it_is = ap (λ (n : ℕ). get_or body n absent) index ∙ ap (λ (l : List View). get_or l (length w.front) absent) is ∙ get_or-append_seam w.front w.it (w.back ++ drop place body) absent
    where
      index : pred (own body place) ≡ length w.front
      index = omega (arith, own_is)

  well : Good (open_behind 0 0 w.front) w.it
  well = r_good body passes w.front w.it (w.back ++ drop place body) is w.closed

  level_is : level_at body place ≡ w.it.level
  level_is = level-at body passes w.front w.it (w.back ++ drop place body) is w.closed place own_is

  above_is : above_at body place ≡ last_header (pred (level_at body place)) 0 1 0 (take place body)
  above_is = above_at_lem body passes w.front w.it (w.back ++ drop place body) is w.closed place own_is ∙ sym (rw (level_is, w.whole) (past_own (pred w.it.level) 0 1 0 w.front w.it w.back w.closed other w.few))
    where
      other : is_header_at (pred w.it.level) w.it ≡ false
      other = rw (ne_eqb w.it.level (pred w.it.level) (λ e. omega (arith, c.least, level_is))) (and-false (is_head w.it.kind))

  pub own_record : OwnRecord body place
  own_record = record {
    some = omega (arith, own_is);
    inside = omega (arith, own_is, size);
    reads = rw it_is (good_reads (open_behind 0 0 w.front) w.it well);
    above = above_is;
    none_above = c.none_above;
    one_above = λ more. omega (arith, (c.one_above more).1);
    low_above = omega (arith, above_is, header-inside (pred (level_at body place)) 0 1 0 place (take place body) (omega arith) (omega (arith, length-take-le place body high)));
    least = c.least;
    most = omega (arith, c.most);
  }
