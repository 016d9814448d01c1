-- An accepted removal: the bytes moved and the four columns rewritten are what format's record list comes to. Assumes nothing.
use mathlib.Core.Path.{◌≡◌, ap, ap₂, sym, ◌∙◌}
use mathlib.Core.List.{List, [], ◌++◌}
use Prim.Native.Nat.{ℕ, suc, pred, ◌+◌, ◌-◌, ◌*◌, ◌/◌, ◌≤◌, ◌<◌}
use native.Mathlib.Omega.{arith}
use lib.ListN.{length, take, drop, get_or, replicate, length-append, length-drop}
use lib.Seq.{length-take-le}
use Rattle.format.specs.Basics.{chunks, flat}
use Rattle.format.specs.Layout.{number_at, header}
use Rattle.format.specs.Record.{count_index, count_name, View, count_in, rewrite, lower}
use Rattle.format.specs.Sheet.{part_length, stated_elements, stated_records, write_counts}
use Rattle.format.specs.Judge.{File, file_of, AcceptedSheet}
use Rattle.format.specs.Edit.{remove11, removed, alter_at, absent, above_in, open_behind, before, body_place}
use Rattle.format.specs.Calls.{remove, plain}
use Rattle.format.specs.Run.{list_of, call}
use Rattle.format.proofs.Lists.{Wide, wide_append, wide_take, wide_drop, length-alter_at}
use Rattle.format.proofs.EditMoves.{as_records}
use Rattle.edit.specs.declared.counts.Change.{Change}
use Rattle.edit.specs.Counts.{with_counts}
use Rattle.edit.specs.Moves.{taken_out}
use Rattle.edit.specs.Plans.{stored_step}
use Rattle.edit.proofs.Rewrites.{get_d_front, as_records_changed, take-moved}
use Rattle.format.proofs.AcceptedSheet.{accepted-list, length-records, whole, bytes_are, call_is, length-body, sheet_two, sheet-inside}
use Rattle.edit.proofs.AtPlace.{above_low, above_high}

module _ (l : List ℕ) (used place : ℕ) (a : AcceptedSheet used l) (c : Change) where
  abbrev rs : List (List ℕ)
  rs = chunks (used / 84) l

  abbrev file : File
  file = file_of (chunks (used / 84) l)

  abbrev tail : List ℕ
  tail = drop used l

  abbrev pre : List View
  pre = before (file_of (chunks (used / 84) l)) place

  abbrev q : ℕ
  q = body_place (file_of (chunks (used / 84) l)) place

  abbrev item : View
  item = get_or (file_of (chunks (used / 84) l)).body q absent

  abbrev gone : ℕ
  gone = suc item.data_records

  abbrev index : ℕ
  index = part_length (chunks (used / 84) l) + pred (above_in item.level pre)

  abbrev left : List (List ℕ)
  left = take (part_length rs + q) rs ++ ([] ++ drop gone (drop (part_length rs + q) rs))

  module _ (fault : remove11 file place ≡ 0) (enough : q + gone ≤ length file.body) (low : 2 ≤ item.level) (near : pred item.level ≤ open_behind 0 0 pre) (kind-most : count_index item.kind ≤ 9) (header_is : c.header ≡ index) (kind_is : c.kind ≡ count_index item.kind) (total_is : c.total ≡ number_at header "total" (get_or rs index []) - 1) (count_is : c.count ≡ count_in (get_or rs index []) (count_index item.kind) - 1) (elements_is : c.stated_elements ≡ stated_elements (get_or rs 1 []) - 1) (records_is : c.stated_records ≡ stated_records (get_or rs 1 []) - gone) (start_is : c.start ≡ 84 * (part_length rs + q)) (length_is : c.length ≡ 84 * gone) where
    place_inside : part_length rs + q + gone ≤ length rs
    place_inside = omega (arith, enough, length-body a, length-records a, sheet-inside a)

    index-inside : pred (above_in item.level pre) < q
    index-inside = omega (arith, above_low a place item.level (omega (arith, enough)) low near, above_high a place item.level (omega (arith, enough)) low near)

    moved : taken_out l used c.start c.length ≡ flat left ++ (replicate (84 * gone) 32 ++ tail)
    moved = rw (start_is, length_is) (take-moved l used rs (accepted-list a).wide (bytes_are a) (whole a) (part_length rs + q) gone (omega (arith, place_inside)))

    length_left : length left ≡ length rs - gone
    length_left = simp (length-append, length-drop) (omega (arith, place_inside, length-take-le (part_length rs + q) rs (omega (arith, place_inside))))

    wide_left : Wide left
    wide_left = wide_append _ _ (wide_take (part_length rs + q) rs (accepted-list a).wide) (wide_drop gone (drop (part_length rs + q) rs) (wide_drop (part_length rs + q) rs (accepted-list a).wide))

    header-there : get_or left c.header [] ≡ get_or rs index []
    header-there = ap (λ (i : ℕ). get_or left i []) header_is ∙ get_d_front (part_length rs + q) index rs ([] ++ drop gone (drop (part_length rs + q) rs)) (omega (arith, place_inside)) (omega (arith, index-inside))

    lowered_there : lower (count_index item.kind) (get_or left c.header []) ≡ rewrite header (count_name c.kind) c.count (rewrite header "total" c.total (get_or left c.header []))
    unfolding lower
    lowered_there = rw (header-there, kind_is, count_is, total_is)

    rewritten : with_counts c (flat left ++ (replicate (84 * gone) 32 ++ tail)) ≡ flat (alter_at (write_counts c.stated_elements c.stated_records) 1 (alter_at (lower (count_index item.kind)) c.header left)) ++ (replicate (84 * gone) 32 ++ tail)
    rewritten = as_records_changed c left (replicate (84 * gone) 32 ++ tail) wide_left (rw kind_is kind-most) (omega (arith, header_is, index-inside, place_inside, length_left)) (omega (arith, sheet_two a, index-inside, place_inside, length_left)) (lower (count_index item.kind)) lowered_there

    records_are : (removed (list_of (record { bytes = l; used = used })) place).records ≡ alter_at (write_counts c.stated_elements c.stated_records) 1 (alter_at (lower (count_index item.kind)) c.header left)
    records_are = as_records rs [] (part_length rs) q gone (pred (above_in item.level pre)) (write_counts (stated_elements (get_or rs 1 []) - 1) (stated_records (get_or rs 1 []) - gone)) (lower (count_index item.kind)) (sheet_two a) (omega (arith, place_inside)) index-inside ∙ rw (header_is, elements_is, records_is)

    length_removed : length (removed (list_of (record { bytes = l; used = used })) place).records ≡ length rs - gone
    length_removed = ap length records_are ∙ length-alter_at (write_counts c.stated_elements c.stated_records) 1 (alter_at (lower (count_index item.kind)) c.header left) ∙ length-alter_at (lower (count_index item.kind)) c.header left ∙ length_left

    pub remove_stored : call (remove place) (record { bytes = l; used = used }) ≡ stored_step (with_counts c (taken_out l used c.start c.length)) (used - c.length)
    unfolding plain
    remove_stored = call_is a (remove place) ∙ rw fault (ap₂ stored_step (ap (λ (x : List (List ℕ)). flat x ++ (replicate (84 * gone) 32 ++ tail)) records_are ∙ sym (ap (with_counts c) moved ∙ rewritten)) (omega (arith, length_removed, length_is, place_inside, whole a)))
