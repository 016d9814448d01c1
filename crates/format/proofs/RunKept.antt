-- An accepted edit keeps every byte but those of four columns. Assumes nothing.
use mathlib.Core.Path.{◌≡◌, refl, ap, sym, ◌∙◌}
use mathlib.Core.Bool.{Bool, true, false, ◌&&◌, ◌||◌}
use mathlib.Core.List.{List, [], ◌∷◌, ◌++◌, append_assoc, map}
use Prim.Native.Nat.{ℕ, zero, suc, pred, ◌+◌, ◌-◌, ◌*◌, ◌≤◌, ◌<◌}
use Prim.Native.String.{String}
use native.Mathlib.Omega.{arith}
use lib.Dec.{leb, ltb, eqb}
use lib.IntN.{pos}
use lib.ListN.{length, length-append, length-drop, length-map, length-replicate, take, drop, take-append-drop, get_or, replicate, get_or-append}
use lib.Seq.{get_or-append-add, length-take-le}
use borrow.Author.Tests.{leb-true, leb-false, ltb-true, ltb-false}
use Rattle.format.specs.Basics.{Answer, given, refused, flat}
use Rattle.format.specs.Column.{written}
use Rattle.format.specs.Layout.{Col, find, number_at, header, sheet_b}
use Rattle.format.specs.Record.{View, view, nothing, count_in, count_index, count_name, rewrite, raise, lower}
use Rattle.format.specs.Sheet.{part_length, write_counts}
use Rattle.format.specs.Judge.{File, file_of}
use Rattle.format.specs.Edit.{RecordList, file, alter_at, above_in, before, after, fault12, insert11, insert13, insert14, insert15, due_behind, insert_fault, remove11, inserted, removed, removed_item, first_view, part_records, body_records, block_of, body_place}
use Rattle.format.specs.Calls.{conclude, Edit, insert, remove, plain}
use Rattle.format.specs.Run.{buffer_of, place_of, item_of, in_column, in_four, header_above, with_block, without_item, moved}
use Rattle.format.proofs.Basics.{and-true, or-false, first_zero, unless_zero}
use Rattle.format.proofs.Columns.{Apart, left, right, column-other, length-splice, length-written, byte_column}
use Rattle.format.proofs.Lists.{Wide, map-drop, block_wide, length-flat, length-alter_at, wide_nil, wide_alter, wide_append, wide_take, wide_drop}
use Rattle.format.proofs.RecordHeaders.{place}
use Rattle.format.proofs.JudgeWalks.{good}
use Rattle.format.proofs.Above.{Split}
use Rattle.format.proofs.AboveWayUp.{above_split}
use Rattle.format.proofs.EditInsert.{Fits, fits, sp, empty-refused}
use Rattle.format.proofs.EditRemove.{Cuts, cuts, enough, b_good, sp as cut-sp}
use Rattle.format.proofs.EditMoves.{as_records}
use Rattle.format.proofs.EditRecords.{Lawful, AcceptedList, put-accepted, cut-accepted}

-- ---- one byte of joined lists
right_byte : (i : ℕ) (a c : List ℕ) → length a ≤ i → get_or (a ++ c) i 0 ≡ get_or c (i - length a) 0
right_byte i a c l = ap (λ (n : ℕ). get_or (a ++ c) n 0) split ∙ get_or-append-add a c (i - length a) 0
  where
    split : i ≡ length a + (i - length a)
    split = omega arith

front_byte : (i : ℕ) (a b c : List ℕ) → length a ≡ length b → get_or a i 0 ≡ get_or b i 0 → get_or (a ++ c) i 0 ≡ get_or (b ++ c) i 0
front_byte i a b c e h = go (ltb i (length a)) refl
  where
    go : (t : Bool) → ltb i (length a) ≡ t → get_or (a ++ c) i 0 ≡ get_or (b ++ c) i 0
    go true p = let l : i < length a = ltb-true _ _ p in get_or-append a c 0 i l ∙ h ∙ sym (get_or-append b c 0 i (omega arith))
    go false p = let l : length a ≤ i = ltb-false _ _ p in right_byte i a c l ∙ ap (λ (n : ℕ). get_or c (i - n) 0) e ∙ sym (right_byte i b c (omega arith))

behind_byte : (i : ℕ) (a c d : List ℕ) → ((k : ℕ) → i ≡ length a + k → get_or c k 0 ≡ get_or d k 0) → get_or (a ++ c) i 0 ≡ get_or (a ++ d) i 0
behind_byte i a c d h = go (ltb i (length a)) refl
  where
    go : (t : Bool) → ltb i (length a) ≡ t → get_or (a ++ c) i 0 ≡ get_or (a ++ d) i 0
    go true p = let l : i < length a = ltb-true _ _ p in get_or-append a c 0 i l ∙ sym (get_or-append a d 0 i l)
    go false p = let l : length a ≤ i = ltb-false _ _ p in right_byte i a c l ∙ h (i - length a) (omega arith) ∙ sym (right_byte i a d l)

-- ---- one record changed: the bytes that the change keeps
pub alter_byte : (f : List ℕ → List ℕ) → ((r : List ℕ) → length r ≡ 84 → length (f r) ≡ 84) → (j i : ℕ) (rs : List (List ℕ)) (t : List ℕ) → Wide rs → ((r : List ℕ) (k : ℕ) → length r ≡ 84 → i ≡ 84 * j + k → get_or (f r) k 0 ≡ get_or r k 0) → get_or (flat (alter_at f j rs) ++ t) i 0 ≡ get_or (flat rs ++ t) i 0
unfolding Wide
alter_byte f wide j i [] t w h = refl
alter_byte f wide zero i (r ∷ rs) t w h = rw (append_assoc (f r) (flat rs) t, append_assoc r (flat rs) t) (front_byte i (f r) r (flat rs ++ t) (wide r w.0 ∙ sym w.0) (h r i w.0 (omega arith)))
alter_byte f wide (suc j) i (r ∷ rs) t w h = rw (append_assoc r (flat (alter_at f j rs)) t, append_assoc r (flat rs) t) (behind_byte i r _ _ (λ k e. alter_byte f wide j k rs t w.1 (λ x m lx em. h x m lx (omega (arith, w.0)))))

-- ---- a column written anew
rewrite-length : (layout : List Col) (name : String) (x : ℕ) (r : List ℕ) → (find name layout).start + (find name layout).width ≤ length r → length (rewrite layout name x r) ≡ length r
unfolding rewrite
rewrite-length layout name x r room = length-splice _ _ _ r (length-written _ (pos x)) room

rewrite_byte : (layout : List Col) (name : String) (x : ℕ) (r : List ℕ) (k : ℕ) → (find name layout).start + (find name layout).width ≤ length r → Apart k 1 (find name layout).start (find name layout).width → get_or (rewrite layout name x r) k 0 ≡ get_or r k 0
unfolding rewrite
rewrite_byte layout name x r k room a = byte_column k _ ∙ ap (λ (bs : List ℕ). get_or bs 0 0) (column-other _ _ (written (find name layout).width (pos x)) r (length-written _ (pos x)) room k 1 a) ∙ sym (byte_column k r)

-- byte i, which is byte k of its record, lies outside a column
outside : (number : ℕ) (c : Col) (i k : ℕ) → in_column number c i ≡ false → i ≡ 84 * pred number + k → Apart k 1 c.start c.width
outside number c i k e is = go (leb (84 * pred number + c.start) i) refl e
  where
    go : (t : Bool) → leb (84 * pred number + c.start) i ≡ t → t && ltb i (84 * pred number + c.start + c.width) ≡ false → Apart k 1 c.start c.width
    go true p q = right (omega (arith, ltb-false i (84 * pred number + c.start + c.width) q))
    go false p q = left (omega (arith, leb-false (84 * pred number + c.start) i p))

-- two columns of one record
module _ (layout : List Col) (n m : String) (n_room : (find n layout).start + (find n layout).width ≤ 84) (m-room : (find m layout).start + (find m layout).width ≤ 84) where
  two_length : (x y : ℕ) (r : List ℕ) → length r ≡ 84 → length (rewrite layout m y (rewrite layout n x r)) ≡ 84
  two_length x y r w = rewrite-length layout m y _ (omega (arith, inner)) ∙ inner
    where
      inner : length (rewrite layout n x r) ≡ 84
      inner = rewrite-length layout n x r (omega arith) ∙ w

  two_byte : (number x y i : ℕ) (r : List ℕ) (k : ℕ) → length r ≡ 84 → in_column number (find n layout) i ≡ false → in_column number (find m layout) i ≡ false → i ≡ 84 * pred number + k → get_or (rewrite layout m y (rewrite layout n x r)) k 0 ≡ get_or r k 0
  two_byte number x y i r k w out-n out-m is = rewrite_byte layout m y _ k (omega (arith, inner)) (outside number (find m layout) i k out-m is) ∙ rewrite_byte layout n x r k (omega arith) (outside number (find n layout) i k out-n is)
    where
      inner : length (rewrite layout n x r) ≡ 84
      inner = rewrite-length layout n x r (omega arith) ∙ w

total-room : (find "total" header).start + (find "total" header).width ≤ 84
unfolding find header
total-room = omega arith

elements_room : (find "element count" sheet_b).start + (find "element count" sheet_b).width ≤ 84
unfolding find sheet_b
elements_room = omega arith

records-room : (find "record count" sheet_b).start + (find "record count" sheet_b).width ≤ 84
unfolding find sheet_b
records-room = omega arith

-- byte i lies in none of the four columns, where the header above has this record number
abbrev Outside : (j above i : ℕ) → Type 0
Outside j above i = (in_column above (find "total" header) i ≡ false) × (in_column above (find (count_name j) header) i ≡ false) × (in_column 2 (find "element count" sheet_b) i ≡ false) × (in_column 2 (find "record count" sheet_b) i ≡ false)

outside-four : (above : ℕ) (v : View) (i : ℕ) → in_four above v i ≡ false → Outside (count_index v.kind) above i
outside-four above v i e =
    let a = or-false (in_column above (find "total" header) i || in_column above (find (count_name (count_index v.kind)) header) i) (in_column 2 (find "element count" sheet_b) i || in_column 2 (find "record count" sheet_b) i) e in
    let b = or-false (in_column above (find "total" header) i) (in_column above (find (count_name (count_index v.kind)) header) i) a.0 in
    let c = or-false (in_column 2 (find "element count" sheet_b) i) (in_column 2 (find "record count" sheet_b) i) a.1 in
    (b.0, b.1, c.0, c.1)

-- a change of the header above that writes total and one count, and of record 2 that writes both counts
module _ (j : ℕ) (small : j ≤ 9) (change : ℕ → List ℕ → List ℕ) (change-is : (r : List ℕ) → (x : ℕ) × (y : ℕ) × (change j r ≡ rewrite header (count_name j) y (rewrite header "total" x r))) where
  change_length : (r : List ℕ) → length r ≡ 84 → length (change j r) ≡ 84
  change_length r w = let e = change-is r in ap length e.2 ∙ two_length header "total" (count_name j) total-room (place j small).room e.0 e.1 r w

  change_byte : (number i : ℕ) (r : List ℕ) (k : ℕ) → length r ≡ 84 → in_column number (find "total" header) i ≡ false → in_column number (find (count_name j) header) i ≡ false → i ≡ 84 * pred number + k → get_or (change j r) k 0 ≡ get_or r k 0
  change_byte number i r k w a b is = let e = change-is r in ap (λ (x : List ℕ). get_or x k 0) e.2 ∙ two_byte header "total" (count_name j) total-room (place j small).room number e.0 e.1 i r k w a b is

  pub both_changed : (e s header i : ℕ) (rs : List (List ℕ)) (t : List ℕ) → Wide rs → Outside j (suc header) i → get_or (flat (alter_at (write_counts e s) 1 (alter_at (change j) header rs)) ++ t) i 0 ≡ get_or (flat rs ++ t) i 0
  unfolding write_counts
  both_changed e s h i rs t w out = alter_byte (write_counts e s) (λ r l. two_length sheet_b "element count" "record count" elements_room records-room e s r l) 1 i _ t (wide_alter (change j) change_length h rs w) (λ r k l is. two_byte sheet_b "element count" "record count" elements_room records-room 2 e s i r k l out.2 out.3 (omega arith)) ∙ alter_byte (change j) change_length h i rs t w (λ r k l is. change_byte (suc h) i r k l out.0 out.1 (omega arith))

raise_is : (j : ℕ) (r : List ℕ) → (x : ℕ) × (y : ℕ) × (raise j r ≡ rewrite header (count_name j) y (rewrite header "total" x r))
unfolding raise
raise_is j r = (number_at header "total" r + 1, count_in r j + 1, refl)

lower_is : (j : ℕ) (r : List ℕ) → (x : ℕ) × (y : ℕ) × (lower j r ≡ rewrite header (count_name j) y (rewrite header "total" x r))
unfolding lower
lower_is j r = (number_at header "total" r - 1, count_in r j - 1, refl)

insert_place : (f : File) (tail : List ℕ) (p : ℕ) (block : List View) → insert_fault f p tail block 200000 ≡ 0 → (f.part_length < p) × (body_place f p ≤ length f.body)
insert_place f tail p block e =
    let a = first_zero (insert11 f p) _ e in
    let b = and-true (ltb f.part_length p && leb (body_place f p) (length f.body)) _ (unless_zero _ _ a.0) in
    let c = and-true (ltb f.part_length p) (leb (body_place f p) (length f.body)) b.0 in
    (ltb-true _ _ c.0, leb-true _ _ c.1)

remove_place : (f : File) (p : ℕ) → remove11 f p ≡ 0 → f.part_length < p
remove_place f p e =
    let a = and-true (ltb f.part_length p && ltb (body_place f p) (length f.body) && eqb (due_behind 0 (before f p)) 0) _ (unless_zero _ _ e) in
    let b = and-true (ltb f.part_length p && ltb (body_place f p) (length f.body)) _ a.0 in
    ltb-true _ _ (and-true (ltb f.part_length p) (ltb (body_place f p) (length f.body)) b.0).0

module _ (L : Lawful) (g : RecordList) (p : ℕ) (k : AcceptedList g) (behind : part_length g.records < p) (room : body_place (file_of g.records) p ≤ length (file_of g.records).body) where
  abbrev q : ℕ
  q = body_place (file_of g.records) p

  abbrev pre : List View
  pre = before (file_of g.records) p

  inside : part_length g.records + q ≤ length g.records
  inside = omega (arith, L.inside g.records k.sheet, rw (length-map (body_records g p) view, length-drop (part_length g.records) g.records) at room)

  same_place : part_length g.records + q ≡ pred p
  same_place = omega arith

  -- the header above an item there, where there is one
  module _ (v : View) (s : Split (pred v.level) 0 pre) where
    above_number : header_above g p v ≡ suc (part_length g.records + pred (above_in v.level pre))
    above_number = rw (above_split v.level pre s) (omega arith)

    index-inside : pred (above_in v.level pre) < q
    index-inside = rw (above_split v.level pre s) (omega (arith, length-take-le q (file_of g.records).body room, simp length-append at (ap length s.whole)))

    -- `mid` put in, and r records behind it taken out
    pub edit_keeps : (change : ℕ → List ℕ → List ℕ) → ((j : ℕ) (x : List ℕ) → (a : ℕ) × (b : ℕ) × (change j x ≡ rewrite header (count_name j) b (rewrite header "total" a x))) → count_index v.kind ≤ 9 → (mid : List (List ℕ)) (r e n i : ℕ) (t : List ℕ) → Wide mid → in_four (header_above g p v) v i ≡ false → get_or (flat (alter_at (write_counts e n) 1 (take (part_length g.records) g.records) ++ (alter_at (change (count_index v.kind)) (pred (above_in v.level pre)) (take q (body_records g p)) ++ (mid ++ drop r (drop q (body_records g p))))) ++ t) i 0 ≡ get_or (flat (take (pred p) g.records ++ (mid ++ drop r (drop (pred p) g.records))) ++ t) i 0
    edit_keeps change change-is small mid r e n i t w out =
        ap (λ (rs : List (List ℕ)). get_or (flat rs ++ t) i 0) (as_records g.records mid (part_length g.records) q r (pred (above_in v.level pre)) (write_counts e n) (change (count_index v.kind)) (L.two g.records k.sheet) inside index-inside)
        ∙ both_changed (count_index v.kind) small change (change-is (count_index v.kind)) e n (part_length g.records + pred (above_in v.level pre)) i _ t (wide_append _ _ (wide_take (part_length g.records + q) g.records k.wide) (wide_append mid _ w (wide_drop r _ (wide_drop (part_length g.records + q) g.records k.wide)))) (outside-four (suc (part_length g.records + pred (above_in v.level pre))) v i (rw above_number at out))
        ∙ ap (λ (m : ℕ). get_or (flat (take m g.records ++ (mid ++ drop r (drop m g.records))) ++ t) i 0) same_place

-- what a call that answered so keeps, on the plain record list
abbrev pub KeepsList : Answer ℕ → (ℕ → Bool) → (old between new : RecordList) → Type 0
KeepsList (given u) four old between new = (i : ℕ) → four i ≡ false → get_or (buffer_of new).bytes i 0 ≡ get_or (buffer_of between).bytes i 0
KeepsList (refused n r) four old between new = new ≡ old

module _ (L : Lawful) where
  keeps-put : (g : RecordList) (p : ℕ) (blk : List (List ℕ)) → AcceptedList g → Wide blk → (n : ℕ) → insert_fault (file_of g.records) p g.tail (map view blk) 200000 ≡ n → KeepsList (conclude n g (inserted g p blk)).reply (in_four (header_above g p (first_view g p blk)) (first_view g p blk)) g (with_block g p blk) (conclude n g (inserted g p blk)).list
  keeps-put g p [] k w zero e = absurd (empty-refused (file_of g.records) g.tail p e)
  keeps-put g p (x ∷ xs) k w zero e = λ i out. edit_keeps L g p k there.0 there.1 (view x) (sp (file_of g.records) p (view x) (map view xs) k.ok t) raise raise_is (good 8 nothing (view x) t.passes.0).known (x ∷ xs) 0 _ _ i (drop (84 * length (x ∷ xs)) g.tail) w out
    where
      there : (part_length g.records < p) × (body_place (file_of g.records) p ≤ length (file_of g.records).body)
      there = insert_place (file_of g.records) g.tail p (map view (x ∷ xs)) e

      t : Fits (before (file_of g.records) p) (after (file_of g.records) p) (view x) (map view xs) ((file_of g.records).part_length + length (file_of g.records).body + length (view x ∷ map view xs))
      t = fits (file_of g.records) g.tail p (view x) (map view xs) e
  keeps-put g p blk k w (suc n) e = refl

  keeps_cut : (g : RecordList) (p : ℕ) → AcceptedList g → (n : ℕ) → remove11 (file_of g.records) p ≡ n → KeepsList (conclude n g (removed g p)).reply (in_four (header_above g p (removed_item g p)) (removed_item g p)) g (without_item g p) (conclude n g (removed g p)).list
  keeps_cut g p k zero e = λ i out. edit_keeps L g p k (remove_place (file_of g.records) p e) (omega (arith, t.inside)) (removed_item g p) (cut-sp (file_of g.records) p k.ok t) lower lower_is (b_good (file_of g.records) p k.ok t).known [] (suc (removed_item g p).data_records) _ _ i (replicate (84 * suc (removed_item g p).data_records) 32 ++ g.tail) wide_nil out
    where
      t : Cuts (file_of g.records).body (body_place (file_of g.records) p)
      t = cuts (file_of g.records) p e
  keeps_cut g p k (suc n) e = refl

  pub plain-keeps : (c : Edit) (g : RecordList) → AcceptedList g → KeepsList (plain c g).reply (in_four (header_above g (place_of c) (item_of c g)) (item_of c g)) g (moved c g) (plain c g).list
  unfolding plain
  plain-keeps (insert p bs) g k = keeps-put g p (block_of bs) k (block_wide bs) _ refl
  plain-keeps (remove p) g k = keeps_cut g p k _ refl

-- an edit makes the buffer neither longer nor shorter
insert-room : (f : File) (tail : List ℕ) (p : ℕ) (block : List View) → insert_fault f p tail block 200000 ≡ 0 → 84 * length block ≤ length tail
insert-room f tail p block e =
    let a = first_zero (insert11 f p) _ e in
    let b = first_zero (fault12 block) _ a.1 in
    let c = first_zero (insert13 f p block) _ b.1 in
    let d = first_zero (insert14 f p block 200000) (insert15 tail block) c.1 in
    leb-true _ _ (unless_zero _ _ d.1)

module _ (L : Lawful) where
  bytes-length : (g : RecordList) → AcceptedList g → length (buffer_of g).bytes ≡ 84 * length g.records + length g.tail
  bytes-length g k = rw (length-append (flat g.records) g.tail, length-flat g.records k.wide)

  -- the sheet part and the body, and the body before and behind a place
  halves : (g : RecordList) (p : ℕ) → (length (part_records g p) + length (body_records g p) ≡ length g.records) × (length (take (body_place (file g p) p) (body_records g p)) + length (drop (body_place (file g p) p) (body_records g p)) ≡ length (body_records g p))
  halves g p = (simp length-append at (ap length (take-append-drop (part_length g.records) g.records)), simp length-append at (ap length (take-append-drop (body_place (file g p) p) (body_records g p))))

  size-put : (g : RecordList) (p : ℕ) (blk : List (List ℕ)) → AcceptedList g → Wide blk → (n : ℕ) → insert_fault (file_of g.records) p g.tail (map view blk) 200000 ≡ n → length (buffer_of (conclude n g (inserted g p blk)).list).bytes ≡ length (buffer_of g).bytes
  size-put g p [] k w zero e = absurd (empty-refused (file_of g.records) g.tail p e)
  size-put g p (x ∷ xs) k w zero e = bytes-length _ (put-accepted L g p x xs k (fits (file_of g.records) g.tail p (view x) (map view xs) e) w) ∙ simp (length-append, length-alter_at) (omega (arith, length-flat g.records k.wide, room, length-map xs view, length-drop (84 * length (x ∷ xs)) g.tail, (halves g p).0, (halves g p).1))
    where
      room : 84 * length (view x ∷ map view xs) ≤ length g.tail
      room = insert-room (file_of g.records) g.tail p (map view (x ∷ xs)) e
  size-put g p blk k w (suc n) e = refl

  size-cut : (g : RecordList) (p : ℕ) → AcceptedList g → (n : ℕ) → remove11 (file_of g.records) p ≡ n → length (buffer_of (conclude n g (removed g p)).list).bytes ≡ length (buffer_of g).bytes
  size-cut g p k zero e = bytes-length _ (cut-accepted L g p k t) ∙ simp (length-append, length-alter_at, length-replicate) (omega (arith, length-flat g.records k.wide, room, length-drop (suc (removed_item g p).data_records) (drop (body_place (file g p) p) (body_records g p)), (halves g p).0, (halves g p).1))
    where
      t : Cuts (file_of g.records).body (body_place (file_of g.records) p)
      t = cuts (file_of g.records) p e

      room : suc (removed_item g p).data_records ≤ length (drop (body_place (file g p) p) (body_records g p))
      room = rw (← length-map (drop (body_place (file g p) p) (body_records g p)) view, map-drop view (body_place (file_of g.records) p) (body_records g p)) (enough (file_of g.records) p k.ok t)
  size-cut g p k (suc n) e = refl

  pub plain_size : (c : Edit) (g : RecordList) → AcceptedList g → length (buffer_of (plain c g).list).bytes ≡ length (buffer_of g).bytes
  unfolding plain
  plain_size (insert p bs) g k = size-put g p (block_of bs) k (block_wide bs) _ refl
  plain_size (remove p) g k = size-cut g p k _ refl
