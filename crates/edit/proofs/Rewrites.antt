-- Bytes and records: a column of the buffer rewritten is that column of its record rewritten; bytes moved are records moved. Assumes nothing.
use mathlib.Core.Path.{◌≡◌, refl, ap, sym, ◌∙◌}
use mathlib.Core.List.{List, [], ◌∷◌, ◌++◌, append_assoc}
use Prim.Native.Nat.{ℕ, zero, suc, ◌+◌, ◌*◌, ◌≤◌, ◌<◌}
use native.Mathlib.Omega.{arith}
use lib.IntN.{pos}
use lib.ListN.{length, take, drop, get_or, replicate, get_or-append}
use lib.Seq.{get_or-take, take-append-le, drop-append-le, take-append-add, drop-append-add, take-take, take_at, drop-drop, length-take-le}
use Rattle.format.specs.Basics.{flat}
use Rattle.format.specs.Column.{written}
use Rattle.format.specs.Layout.{Col, splice, find, header, sheet_b}
use Rattle.format.specs.Record.{count_name, rewrite}
use Rattle.format.specs.Sheet.{write_counts}
use Rattle.format.specs.Edit.{alter_at}
use Rattle.format.proofs.Columns.{length-splice, length-written}
use Rattle.format.proofs.Lists.{Wide, wide_alter, length-alter_at, length-flat}
use Rattle.format.proofs.EditMoves.{as_bytes}
use Rattle.edit.specs.declared.counts.Change.{Change}
use Rattle.records.specs.Entry.{count_start, count_width}
use Rattle.edit.specs.Counts.{put, with_counts}
use Rattle.edit.specs.Moves.{put_in, taken_out}
use Rattle.records.proofs.Counts.{count_place}

-- ---- a splice in the front of some bytes, and behind it
module _ (s w : ℕ) (v r t : List ℕ) where
  splice_front : s + w ≤ length r → splice s w v (r ++ t) ≡ splice s w v r ++ t
  unfolding splice
  splice_front h = rw (take-append-le s r t (omega arith), drop-append-le (s + w) r t h) (sym (append_assoc (take s r) (v ++ drop (s + w) r) t ∙ ap (λ (x : List ℕ). take s r ++ x) (append_assoc v (drop (s + w) r) t)))

  splice-behind : (n : ℕ) → length r ≡ n → splice (n + s) w v (r ++ t) ≡ r ++ splice s w v t
  unfolding splice
  splice-behind n e =
      let a : n + s ≡ length r + s = omega arith in
      let b : length r + s + w ≡ length r + (s + w) = omega arith in
      rw (a, b, take-append-add r t s, drop-append-add r t (s + w)) (append_assoc r (take s t) (v ++ drop (s + w) t))

-- a column of the record at an index
record_splice : (rs : List (List ℕ)) (tail v : List ℕ) (i s w : ℕ) → Wide rs → i < length rs → s + w ≤ 84 → splice (84 * i + s) w v (flat rs ++ tail) ≡ flat (alter_at (splice s w v) i rs) ++ tail
unfolding Wide
record_splice [] tail v i s w wide h k = absurd (omega arith)
record_splice (r ∷ rs) tail v zero s w wide h k =
    let z : 84 * 0 + s ≡ s = omega arith in
    rw (z, append_assoc r (flat rs) tail, append_assoc (splice s w v r) (flat rs) tail) (splice_front s w v r (flat rs ++ tail) (omega (arith, wide.0)))
record_splice (r ∷ rs) tail v (suc i) s w wide h k =
    let more : 84 * suc i + s ≡ 84 + (84 * i + s) = omega arith in
    rw (more, append_assoc r (flat rs) tail, append_assoc r (flat (alter_at (splice s w v) i rs)) tail) (splice-behind (84 * i + s) w v r (flat rs ++ tail) 84 wide.0 ∙ ap (λ (x : List ℕ). r ++ x) (record_splice rs tail v i s w wide.1 (omega arith) k))

-- ---- one record changed
alter_twice : (f g : List ℕ → List ℕ) (i : ℕ) (rs : List (List ℕ)) → alter_at f i (alter_at g i rs) ≡ alter_at (λ r. f (g r)) i rs
alter_twice f g i [] = refl
alter_twice f g zero (r ∷ rs) = refl
alter_twice f g (suc i) (r ∷ rs) = ap (λ (x : List (List ℕ)). r ∷ x) (alter_twice f g i rs)

-- the change matters at that record alone
alter_same : (f g : List ℕ → List ℕ) (i : ℕ) (rs : List (List ℕ)) → f (get_or rs i []) ≡ g (get_or rs i []) → alter_at f i rs ≡ alter_at g i rs
alter_same f g i [] e = refl
alter_same f g zero (r ∷ rs) e = ap (λ (x : List ℕ). x ∷ rs) e
alter_same f g (suc i) (r ∷ rs) e = ap (λ (x : List (List ℕ)). r ∷ x) (alter_same f g i rs e)

-- one record of records that something was put between
pub get_d_front : (m i : ℕ) (rs rest : List (List ℕ)) → m ≤ length rs → i < m → get_or (take m rs ++ rest) i [] ≡ get_or rs i []
get_d_front m i rs rest h k = get_or-append (take m rs) rest [] i (omega (arith, length-take-le m rs h)) ∙ get_or-take m rs i [] k

-- ---- THE FOUR COLUMNS: of the buffer, and of the two records
module _ (c : Change) (rs : List (List ℕ)) (tail : List ℕ) (wide : Wide rs) (kind-most : c.kind ≤ 9) (header_in_lem : c.header < length rs) (two : 2 ≤ length rs) where
  abbrev in_column_lem : Col → (number : ℕ) → List ℕ → List ℕ
  in_column_lem col number = splice col.start col.width (written col.width (pos number))

  column_wide : (col : Col) (number : ℕ) → col.start + col.width ≤ 84 → (x : List ℕ) → length x ≡ 84 → length (splice col.start col.width (written col.width (pos number)) x) ≡ 84
  column_wide col number h x e = length-splice col.start col.width (written col.width (pos number)) x (length-written col.width (pos number)) (omega arith) ∙ e

  abbrev total-column : Col
  total-column = find "total" header

  abbrev kind-column : Col
  kind-column = find (count_name c.kind) header

  abbrev elements_column : Col
  elements_column = find "element count" sheet_b

  abbrev records-column : Col
  records-column = find "record count" sheet_b

  total-room : total-column.start + total-column.width ≤ 84
  unfolding find header
  total-room = omega arith

  kind-room : kind-column.start + kind-column.width ≤ 84
  unfolding count_start count_width
  kind-room = (count_place c.kind kind-most).0

  elements_room : elements_column.start + elements_column.width ≤ 84
  unfolding find sheet_b
  elements_room = omega arith

  records-room : records-column.start + records-column.width ≤ 84
  unfolding find sheet_b
  records-room = omega arith

  abbrev rs₁ : List (List ℕ)
  rs₁ = alter_at (in_column_lem total-column c.total) c.header rs

  abbrev rs₂ : List (List ℕ)
  rs₂ = alter_at (in_column_lem kind-column c.count) c.header rs₁

  abbrev rs₃ : List (List ℕ)
  rs₃ = alter_at (in_column_lem elements_column c.stated_elements) 1 rs₂

  wide₁ : Wide rs₁
  wide₁ = wide_alter _ (column_wide total-column c.total total-room) c.header rs wide

  wide₂ : Wide rs₂
  wide₂ = wide_alter _ (column_wide kind-column c.count kind-room) c.header rs₁ wide₁

  wide₃ : Wide rs₃
  wide₃ = wide_alter _ (column_wide elements_column c.stated_elements elements_room) 1 rs₂ wide₂

  length₁ : length rs₁ ≡ length rs
  length₁ = length-alter_at (in_column_lem total-column c.total) c.header rs

  length₂ : length rs₂ ≡ length rs
  length₂ = length-alter_at (in_column_lem kind-column c.count) c.header rs₁ ∙ length₁

  length₃ : length rs₃ ≡ length rs
  length₃ = length-alter_at (in_column_lem elements_column c.stated_elements) 1 rs₂ ∙ length₂

  as_columns : with_counts c (flat rs ++ tail) ≡ flat (alter_at (in_column_lem records-column c.stated_records) 1 rs₃) ++ tail
  unfolding with_counts
  as_columns =
      ap (λ (x : List ℕ). put 1 records-column c.stated_records (put 1 elements_column c.stated_elements (put c.header kind-column c.count x))) (record_splice rs tail _ c.header total-column.start total-column.width wide header_in_lem total-room)
      ∙ ap (λ (x : List ℕ). put 1 records-column c.stated_records (put 1 elements_column c.stated_elements x)) (record_splice rs₁ tail _ c.header kind-column.start kind-column.width wide₁ (omega (arith, length₁)) kind-room)
      ∙ ap (λ (x : List ℕ). put 1 records-column c.stated_records x) (record_splice rs₂ tail _ 1 elements_column.start elements_column.width wide₂ (omega (arith, length₂)) elements_room)
      ∙ record_splice rs₃ tail _ 1 records-column.start records-column.width wide₃ (omega (arith, length₃)) records-room

  counts_are : (r : List ℕ) → in_column_lem records-column c.stated_records (in_column_lem elements_column c.stated_elements r) ≡ write_counts c.stated_elements c.stated_records r
  unfolding write_counts rewrite
  counts_are r = refl

  header_is : (r : List ℕ) → in_column_lem kind-column c.count (in_column_lem total-column c.total r) ≡ rewrite header (count_name c.kind) c.count (rewrite header "total" c.total r)
  unfolding rewrite
  header_is r = refl

  -- by the change of the header that format names
  pub as_records_changed : (change : List ℕ → List ℕ) → change (get_or rs c.header []) ≡ rewrite header (count_name c.kind) c.count (rewrite header "total" c.total (get_or rs c.header [])) → with_counts c (flat rs ++ tail) ≡ flat (alter_at (write_counts c.stated_elements c.stated_records) 1 (alter_at change c.header rs)) ++ tail
  as_records_changed change e = as_columns ∙ ap (λ (x : List (List ℕ)). flat x ++ tail) (sheet ∙ ap (alter_at (write_counts c.stated_elements c.stated_records) 1) above)
    where
      sheet : alter_at (in_column_lem records-column c.stated_records) 1 (alter_at (in_column_lem elements_column c.stated_elements) 1 rs₂) ≡ alter_at (write_counts c.stated_elements c.stated_records) 1 rs₂
      sheet = alter_twice (in_column_lem records-column c.stated_records) (in_column_lem elements_column c.stated_elements) 1 rs₂ ∙ alter_same (λ r. in_column_lem records-column c.stated_records (in_column_lem elements_column c.stated_elements r)) (write_counts c.stated_elements c.stated_records) 1 rs₂ (counts_are (get_or rs₂ 1 []))

      above : alter_at (in_column_lem kind-column c.count) c.header (alter_at (in_column_lem total-column c.total) c.header rs) ≡ alter_at change c.header rs
      above = alter_twice _ _ c.header rs ∙ alter_same (λ r. in_column_lem kind-column c.count (in_column_lem total-column c.total r)) change c.header rs (header_is (get_or rs c.header []) ∙ sym e)

pub nil_wide : Wide []
unfolding Wide
nil_wide = tt

-- ---- BYTES MOVED: l is records, and behind them the rest
module _ (l : List ℕ) (used : ℕ) (rs : List (List ℕ)) (wide : Wide rs) (is : flat rs ++ drop used l ≡ l) (long : used ≡ 84 * length rs) (m : ℕ) where
  front : take used l ≡ flat rs
  front = ap (take used) (sym is) ∙ take_at (flat rs) (drop used l) used (length-flat rs wide ∙ sym long)

  before : m ≤ length rs → take (84 * m) l ≡ take (84 * m) (flat rs)
  before h = sym (take-take (84 * m) used l (omega arith)) ∙ ap (take (84 * m)) front

  pub put-moved : (mid : List (List ℕ)) (block : List ℕ) → m ≤ length rs → Wide mid → flat mid ≡ block → put_in l used (84 * m) block ≡ flat (take m rs ++ (mid ++ drop m rs)) ++ drop (84 * length mid) (drop used l)
  put-moved mid block h w e =
      let k : length block ≡ 84 * length mid = ap length (sym e) ∙ length-flat mid w in
      rw (before h, front, k, ← (drop-drop (84 * length mid) used l), as_bytes rs mid m 0 wide w, e) (sym (append_assoc (take (84 * m) (flat rs)) (block ++ drop (84 * m) (flat rs)) (drop (84 * length mid) (drop used l)) ∙ ap (λ (x : List ℕ). take (84 * m) (flat rs) ++ x) (append_assoc block (drop (84 * m) (flat rs)) (drop (84 * length mid) (drop used l)))))

  pub take-moved : (r : ℕ) → m ≤ length rs → taken_out l used (84 * m) (84 * r) ≡ flat (take m rs ++ ([] ++ drop r (drop m rs))) ++ (replicate (84 * r) 32 ++ drop used l)
  take-moved r h = rw (before h, front, as_bytes rs [] m r wide nil_wide, drop-drop (84 * r) (84 * m) (flat rs)) (sym (append_assoc (take (84 * m) (flat rs)) (drop (84 * m + 84 * r) (flat rs)) (replicate (84 * r) 32 ++ drop used l)))
