-- DEMAND 3 over bytes. Assumes nothing.
use mathlib.Core.Path.{◌≡◌, refl, ap, ap₂, sym, ◌∙◌}
use mathlib.Core.List.{List, [], ◌∷◌, map}
use Prim.Native.Nat.{ℕ, zero, suc, ◌+◌}
use native.Mathlib.Omega.{arith}
use lib.ListN.{length}
use Rattle.format.specs.Basics.{Answer, given, refused}
use Rattle.format.specs.Run.{Buffer, Step, call, buffer_of, list_of, insertions, replies_buffer, replies_plain, run_buffer, run_plain, sum_of, removals, Runs, Sound, Keeps, KeepsBytes, EachKeeps, element_count, sheet_of, in_four_columns, moved}
use Rattle.format.specs.Above.{up}
use Rattle.format.specs.Judge.{File, file_of, AcceptedSheet}
use Rattle.format.specs.Record.{view}
use Rattle.format.specs.Edit.{RecordList, block_of, remove11, removed, inserted, insert_fault}
use Rattle.format.specs.Calls.{Edit, conclude, insert, plain, remove}
use Rattle.format.proofs.EditInsert.{fits, empty-refused}
use Rattle.format.proofs.EditRemove.{cuts, cut_ok}
use Rattle.format.proofs.Lists.{Wide, block_wide}
use Rattle.format.proofs.AboveWayUp.{way_up}
use Rattle.format.proofs.RunKept.{KeepsList, plain-keeps, plain_size}
use Rattle.format.proofs.EditRecords.{AcceptedList, put-accepted, cut-accepted, put-file, cut-file}
use Rattle.format.proofs.SheetCounts.{the_laws}
use Rattle.format.proofs.AcceptedSheet.{accepted-list, same, call_is, all-records, verdict_is, open_buffer_of, list-accepted}

-- ---- one edit of the plain record list keeps it accepted
step-put : (g : RecordList) (p : ℕ) (blk : List (List ℕ)) → AcceptedList g → Wide blk → (n : ℕ) → insert_fault (file_of g.records) p g.tail (map view blk) 200000 ≡ n → AcceptedList (conclude n g (inserted g p blk)).list
step-put g p [] k w zero e = absurd (empty-refused (file_of g.records) g.tail p e)
step-put g p (x ∷ xs) k w zero e = put-accepted the_laws g p x xs k (fits (file_of g.records) g.tail p (view x) (map view xs) e) w
step-put g p blk k w (suc n) e = k

step_cut : (g : RecordList) (p : ℕ) → AcceptedList g → (n : ℕ) → remove11 (file_of g.records) p ≡ n → AcceptedList (conclude n g (removed g p)).list
step_cut g p k zero e = cut-accepted the_laws g p k (cuts (file_of g.records) p e)
step_cut g p k (suc n) e = k

plain-accepted : (c : Edit) (g : RecordList) → AcceptedList g → AcceptedList (plain c g).list
unfolding plain
plain-accepted (insert p bs) g k = step-put g p (block_of bs) k (block_wide bs) _ refl
plain-accepted (remove p) g k = step_cut g p k _ refl

-- and counts its elements
count-put : (g : RecordList) (p : ℕ) (bs : List ℕ) (blk : List (List ℕ)) → AcceptedList g → (n : ℕ) → insert_fault (file_of g.records) p g.tail (map view blk) 200000 ≡ n → (file_of (conclude n g (inserted g p blk)).list.records).stated_elements + removals (insert p bs) (conclude n g (inserted g p blk)).reply ≡ (file_of g.records).stated_elements + insertions (insert p bs) (conclude n g (inserted g p blk)).reply
count-put g p bs [] k zero e = absurd (empty-refused (file_of g.records) g.tail p e)
count-put g p bs (x ∷ xs) k zero e = omega (arith, ap (λ (f : File). f.stated_elements) (put-file the_laws g p x xs k (fits (file_of g.records) g.tail p (view x) (map view xs) e)))
count-put g p bs blk k (suc n) e = refl

count_cut : (g : RecordList) (p : ℕ) → AcceptedList g → (n : ℕ) → remove11 (file_of g.records) p ≡ n → (file_of (conclude n g (removed g p)).list.records).stated_elements + removals (remove p) (conclude n g (removed g p)).reply ≡ (file_of g.records).stated_elements + insertions (remove p) (conclude n g (removed g p)).reply
count_cut g p k zero e = omega (arith, ap (λ (f : File). f.stated_elements) (cut-file the_laws g p k (cuts (file_of g.records) p e)), (cut_ok (file_of g.records) p k.ok (cuts (file_of g.records) p e) (λ d i. 0)).1)
count_cut g p k (suc n) e = refl

plain-count : (c : Edit) (g : RecordList) → AcceptedList g → (file_of (plain c g).list.records).stated_elements + removals c (plain c g).reply ≡ (file_of g.records).stated_elements + insertions c (plain c g).reply
unfolding plain
plain-count (insert p bs) g k = count-put g p bs (block_of bs) k _ refl
plain-count (remove p) g k = count_cut g p k _ refl

-- ---- one call on an accepted sheet
module _ (b : Buffer) (a : AcceptedSheet b.used b.bytes) (c : Edit) where
  abbrev planned : RecordList
  planned = (plain c (list_of b)).list

  planned_accepted : AcceptedList planned
  planned_accepted = plain-accepted c (list_of b) (accepted-list a)

  reply_is : (call c b).reply ≡ (plain c (list_of b)).reply
  reply_is = ap (λ (s : Step). s.reply) (call_is a c)

  -- leaves it accepted
  still : AcceptedSheet (call c b).buffer.used (call c b).buffer.bytes
  still = rw (call_is a c) (list-accepted planned planned_accepted)

  -- leaves the plain list's records and tail
  list-after : list_of (call c b).buffer ≡ planned
  list-after = ap (λ (s : Step). list_of s.buffer) (call_is a c) ∙ open_buffer_of planned planned_accepted.wide

  call-count : element_count (call c b).buffer + removals c (call c b).reply ≡ element_count b + insertions c (call c b).reply
  call-count = ap₂ (λ (g : RecordList) (r : Answer ℕ). (file_of g.records).stated_elements + removals c r) list-after reply_is ∙ plain-count c (list_of b) (accepted-list a) ∙ ap (λ (r : Answer ℕ). element_count b + insertions c r) (sym reply_is)

  call-keeps : Keeps (call c b).reply c b (call c b).buffer
  call-keeps = rw (call_is a c) (record { size = plain_size the_laws c (list_of b) (accepted-list a) ∙ ap (λ (x : Buffer). length x.bytes) (same a); bytes = go (plain c (list_of b)).reply (plain-keeps the_laws c (list_of b) (accepted-list a)) })
    where
      go : (r : Answer ℕ) → KeepsList r (in_four_columns c (list_of b)) (list_of b) (moved c (list_of b)) planned → KeepsBytes r c b (buffer_of planned)
      go (given u) h = h
      go (refused x y) h = ap buffer_of h ∙ same a

-- what holds of an accepted sheet
pub sound : (b : Buffer) → AcceptedSheet b.used b.bytes → Sound b
unfolding up
sound b a = record {
  accepts = verdict_is a;
  ways = λ number l u. rw a.judged (way_up (sheet_of b) number (accepted-list a).ok.walks.0 l (omega (arith, all-records a)));
  keeps = call-keeps b a;
}

-- ---- a list of calls
run_accepted : (cs : List Edit) (b : Buffer) → AcceptedSheet b.used b.bytes → AcceptedSheet (run_buffer cs b).used (run_buffer cs b).bytes
run_accepted [] b a = a
run_accepted (c ∷ cs) b a = run_accepted cs (call c b).buffer (still b a c)

run_list : (cs : List Edit) (b : Buffer) → AcceptedSheet b.used b.bytes → list_of (run_buffer cs b) ≡ run_plain cs (list_of b)
run_list [] b a = refl
run_list (c ∷ cs) b a = run_list cs (call c b).buffer (still b a c) ∙ ap (run_plain cs) (list-after b a c)

run_replies : (cs : List Edit) (b : Buffer) → AcceptedSheet b.used b.bytes → replies_buffer cs b ≡ replies_plain cs (list_of b)
run_replies [] b a = refl
run_replies (c ∷ cs) b a = ap₂ ◌∷◌ (reply_is b a c) (run_replies cs (call c b).buffer (still b a c) ∙ ap (replies_plain cs) (list-after b a c))

run_keeps : (cs : List Edit) (b : Buffer) → AcceptedSheet b.used b.bytes → EachKeeps cs b
run_keeps [] b a = tt
run_keeps (c ∷ cs) b a = (call-keeps b a c, run_keeps cs (call c b).buffer (still b a c))

run_count : (cs : List Edit) (b : Buffer) → AcceptedSheet b.used b.bytes → element_count (run_buffer cs b) + sum_of removals cs (replies_buffer cs b) ≡ element_count b + sum_of insertions cs (replies_buffer cs b)
run_count [] b a = refl
run_count (c ∷ cs) b a = omega (arith, call-count b a c, run_count cs (call c b).buffer (still b a c))

-- DEMAND 3
pub demand3 : (cs : List Edit) (b : Buffer) → AcceptedSheet b.used b.bytes → Runs cs b
demand3 cs b a = record {
  replies = run_replies cs b a;
  buffer = sym (same (run_accepted cs b a)) ∙ ap buffer_of (run_list cs b a);
  kept = run_keeps cs b a;
  sound = sound (run_buffer cs b) (run_accepted cs b a);
  counts = run_count cs b a;
}
