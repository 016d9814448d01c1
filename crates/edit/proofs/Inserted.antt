-- An accepted insertion: the bytes moved and the four columns rewritten are what format's record list comes to. Assumes nothing.
use mathlib.Core.Path.{◌≡◌, ap, ap₂, sym, ◌∙◌}
use mathlib.Core.List.{List, [], ◌∷◌, ◌++◌, map}
use Prim.Native.Nat.{ℕ, pred, ◌+◌, ◌*◌, ◌/◌, ◌≤◌, ◌<◌}
use native.Mathlib.Omega.{arith}
use lib.ListN.{length, take, drop, get_or, length-append, length-drop}
use lib.Seq.{length-take-le}
use Rattle.format.specs.Basics.{chunks, flat}
use Rattle.format.specs.Layout.{number_at, header}
use Rattle.format.specs.Record.{count_index, count_name, View, view, count_in, rewrite, raise}
use Rattle.format.specs.Sheet.{part_length, stated_elements, stated_records, write_counts}
use Rattle.format.specs.Judge.{File, file_of, AcceptedSheet}
use Rattle.format.specs.Edit.{insert_fault, above_block, inserted, block_of, alter_at, absent, above_in, open_behind, before, body_place}
use Rattle.format.specs.Calls.{insert, plain}
use Rattle.format.specs.Run.{list_of, call}
use Rattle.format.proofs.EditInsert.{fits, sp, above_is, above_counts, empty-refused}
use Rattle.format.proofs.Lists.{Wide, block_wide, wide_append, wide_take, wide_drop, length-alter_at}
use Rattle.format.proofs.EditMoves.{as_records}
use Rattle.edit.specs.declared.counts.Change.{Change}
use Rattle.edit.specs.Counts.{with_counts}
use Rattle.edit.specs.Moves.{put_in}
use Rattle.edit.specs.Plans.{stored_step}
use Rattle.edit.proofs.Rewrites.{get_d_front, as_records_changed, put-moved}
use Rattle.format.proofs.AcceptedSheet.{accepted-list, length-records, whole, bytes_are, call_is, length-body, sheet_two, sheet-inside}
use Rattle.edit.proofs.AtPlace.{above_low, above_high}

module _ (l : List ℕ) (used place : ℕ) (a : AcceptedSheet used l) where
  abbrev rs : List (List ℕ)
  rs = chunks (used / 84) l

  abbrev file : File
  file = file_of (chunks (used / 84) l)

  abbrev tail : List ℕ
  tail = drop used l

  abbrev pre : List View
  pre = before (file_of (chunks (used / 84) l)) place

  abbrev q : ℕ
  q = body_place (file_of (chunks (used / 84) l)) place

  -- the header's own count is at most its total
  pub count_of_total : (views : List View) → insert_fault file place tail views 200000 ≡ 0 → (above_block file place views).count (count_index (get_or views 0 absent).kind) ≤ (above_block file place views).total
  count_of_total [] e = absurd (empty-refused file tail place e)
  count_of_total (b ∷ ds) e = rw (above_is b.level pre (sp file place b ds (accepted-list a).ok (fits file tail place b ds e))) (above_counts file place b ds (accepted-list a).ok (fits file tail place b ds e))

  module _ (block : List ℕ) (bytes_block : flat (block_of block) ≡ block) (c : Change) (fault : insert_fault file place tail (map view (block_of block)) 200000 ≡ 0) (k : q ≤ length file.body) where
    abbrev item : View
    item = get_or (map view (block_of block)) 0 absent

    abbrev index : ℕ
    index = part_length (chunks (used / 84) l) + pred (above_in (get_or (map view (block_of block)) 0 absent).level pre)

    abbrev between : List (List ℕ)
    between = take (part_length rs + q) rs ++ (block_of block ++ drop (part_length rs + q) rs)

    module _ (low : 2 ≤ item.level) (near : pred item.level ≤ open_behind 0 0 pre) (kind-most : count_index item.kind ≤ 9) (header_is : c.header ≡ index) (kind_is : c.kind ≡ count_index item.kind) (total_is : c.total ≡ number_at header "total" (get_or rs index []) + 1) (count_is : c.count ≡ count_in (get_or rs index []) (count_index item.kind) + 1) (elements_is : c.stated_elements ≡ stated_elements (get_or rs 1 []) + 1) (records_is : c.stated_records ≡ stated_records (get_or rs 1 []) + length (block_of block)) (start_is : c.start ≡ 84 * (part_length rs + q)) where
      place_inside : part_length rs + q ≤ length rs
      place_inside = omega (arith, k, length-body a, length-records a, sheet-inside a)

      index-inside : pred (above_in item.level pre) < q
      index-inside = omega (arith, above_low a place item.level k low near, above_high a place item.level k low near)

      moved : put_in l used c.start block ≡ flat between ++ drop (84 * length (block_of block)) tail
      moved = rw start_is (put-moved l used rs (accepted-list a).wide (bytes_are a) (whole a) (part_length rs + q) (block_of block) block place_inside (block_wide block) bytes_block)

      length-between : length between ≡ length rs + length (block_of block)
      length-between = simp (length-append, length-drop) (omega (arith, place_inside, length-take-le (part_length rs + q) rs place_inside))

      wide_between : Wide between
      wide_between = wide_append _ _ (wide_take (part_length rs + q) rs (accepted-list a).wide) (wide_append _ _ (block_wide block) (wide_drop (part_length rs + q) rs (accepted-list a).wide))

      header-there : get_or between c.header [] ≡ get_or rs index []
      header-there = ap (λ (i : ℕ). get_or between i []) header_is ∙ get_d_front (part_length rs + q) index rs (block_of block ++ drop (part_length rs + q) rs) place_inside (omega (arith, index-inside))

      raised_there : raise (count_index item.kind) (get_or between c.header []) ≡ rewrite header (count_name c.kind) c.count (rewrite header "total" c.total (get_or between c.header []))
      unfolding raise
      raised_there = rw (header-there, kind_is, count_is, total_is)

      rewritten : with_counts c (flat between ++ drop (84 * length (block_of block)) tail) ≡ flat (alter_at (write_counts c.stated_elements c.stated_records) 1 (alter_at (raise (count_index item.kind)) c.header between)) ++ drop (84 * length (block_of block)) tail
      rewritten = as_records_changed c between (drop (84 * length (block_of block)) tail) wide_between (rw kind_is kind-most) (omega (arith, header_is, index-inside, place_inside, length-between)) (omega (arith, sheet_two a, sheet-inside a, length-between)) (raise (count_index item.kind)) raised_there

      records_are : (inserted (list_of (record { bytes = l; used = used })) place (block_of block)).records ≡ alter_at (write_counts c.stated_elements c.stated_records) 1 (alter_at (raise (count_index item.kind)) c.header between)
      records_are = as_records rs (block_of block) (part_length rs) q 0 (pred (above_in item.level pre)) (write_counts (stated_elements (get_or rs 1 []) + 1) (stated_records (get_or rs 1 []) + length (block_of block))) (raise (count_index item.kind)) (sheet_two a) place_inside index-inside ∙ rw (header_is, elements_is, records_is)

      length_inserted : length (inserted (list_of (record { bytes = l; used = used })) place (block_of block)).records ≡ length rs + length (block_of block)
      length_inserted = ap length records_are ∙ length-alter_at (write_counts c.stated_elements c.stated_records) 1 (alter_at (raise (count_index item.kind)) c.header between) ∙ length-alter_at (raise (count_index item.kind)) c.header between ∙ length-between

      pub insert_stored : 84 * length (block_of block) ≡ length block → call (insert place block) (record { bytes = l; used = used }) ≡ stored_step (with_counts c (put_in l used c.start block)) (used + length block)
      unfolding plain
      insert_stored long = call_is a (insert place block) ∙ rw fault (ap₂ stored_step (ap (λ (x : List (List ℕ)). flat x ++ drop (84 * length (block_of block)) tail) records_are ∙ sym (ap (with_counts c) moved ∙ rewritten)) (omega (arith, length_inserted, whole a)))
