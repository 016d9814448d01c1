-- The right directory put behind a sheet: record after record, then the closing record; and the answer of an append. Assumes nothing.
use mathlib.Core.Path.{◌≡◌, refl, ap, ap₂, sym, ◌∙◌}
use mathlib.Core.Bool.{Bool, cond}
use mathlib.Core.List.{List, [], ◌∷◌, ◌++◌, append_assoc, append-nil, map, map-append}
use Prim.Native.Nat.{ℕ, zero, suc, ◌+◌, ◌*◌, ◌/◌, ◌≤◌, ◌<◌}
use native.Mathlib.Numerals.{add-one}
use native.Mathlib.Omega.{arith}
use mir.Syntax.{w64}
use mir.Val.{Fits}
use borrow.Author.Tests.{le-leb, lt-leb}
use lib.ListN.{length, length-append, length-drop, length-map, take, drop, take-append-drop}
use lib.Seq.{drop-drop, take_at, length-take-le}
use Rattle.format.specs.Basics.{Answer, given, refused, flat, chunks, round_up}
use Rattle.std.specs.Prelude.{Ok, Err}
use Rattle.format.specs.declared.Reason.{Reason}
use Rattle.format.specs.declared.Refusal.{Refusal}
use Rattle.format.specs.Reasons.{refusal_number, refusal_for}
use Rattle.format.specs.Answers.{edited_answer}
use Rattle.format.specs.Record.{view}
use Rattle.format.specs.Judge.{Counts, judge_sheet}
use Rattle.format.proofs.JudgeStages.{Whole}
use Rattle.format.proofs.AcceptedSheet.{whole-records}
use Rattle.format.proofs.Lists.{flat_append, length-flat, length-chunks}
use Rattle.files.specs.declared.Stride.TheVariants.{Plain}
use Rattle.files.specs.Records.{records_of}
use Rattle.files.specs.Buffers.{put_at}
use Rattle.files.proofs.Buffers.{put-behind}
use Rattle.files.proofs.Records.{front-records}
use Rattle.format_directory.specs.declared.Edition.{Edition}
use Rattle.format_directory.specs.declared.Edition.TheVariants.{One, Two}
use Rattle.format_directory.specs.Directory.{Layer, layers_from, layers_of, per_record, row, closing, shared, directory_of, append_to, append_directory}
use Rattle.format_directory.proofs.DirectoryRecords.{most, length-row, length-closing, length-shared, length_directory, wide_rows}
use Rattle.format_directory.proofs.DirectoryJudged.{Accepted, accepted_of, few-layers}
use Rattle.judge.specs.declared.ListedSheet.{ListedSheet}
use Rattle.judge.specs.Listed.{first_numbers, kept_layers, listed_said, listed_in}
use Rattle.judge.proofs.ListedLaws.{OpenedListed, listed_refusal, opened-listed}
use Rattle.directories.specs.declared.writing.Row.{Row}
use Rattle.directories.specs.Steps.{views_in, layers_in, Kept, RowFrom, rows_put, directory_put}
use Rattle.directories.proofs.Different.{rows_few}
use Rattle.format.proofs.Reasons.{not_zero}

-- a record of layers has its 84 bytes
row_long : (file : List ℕ) (e : Edition) (k : ℕ) (r : Row) → RowFrom file e k r → length r.bytes ≡ 84
row_long file e k r f = ap length f.bytes_are ∙ length-row e (take (per_record e) (layers_in file k)) (most (per_record e) (layers_in file k))

-- one record of layers more
shared-more : (each i : ℕ) (ls : List Layer) → shared each (suc i) ls ≡ shared each i ls ++ (take each (drop (each * i) ls) ∷ [])
shared-more each zero ls = ap (λ (n : ℕ). take each (drop n ls) ∷ []) (let x : 0 ≡ each * 0 = omega arith in x)
shared-more each (suc i) ls = ap (λ (x : List (List Layer)). take each ls ∷ x) (shared-more each i (drop each ls) ∙ ap (λ (x : List Layer). shared each i (drop each ls) ++ (take each x ∷ [])) (drop-drop (each * i) each ls ∙ ap (λ (n : ℕ). drop n ls) (let x : each + each * i ≡ each * suc i = omega arith in x)))

module _ (e : Edition) (used k : ℕ) (buffer₀ : List ℕ) where
  abbrev ls : List Layer
  ls = layers_in (take used buffer₀) k

  rows_of : ℕ → List ℕ
  rows_of i = flat (map (row e) (shared (per_record e) i ls))

  rows_long : (i : ℕ) → length (rows_of i) ≡ 84 * i
  unfolding rows_of
  rows_long i = length-flat (map (row e) (shared (per_record e) i ls)) (wide_rows e i ls) ∙ ap (λ (n : ℕ). 84 * n) (length-map (shared (per_record e) i ls) (row e) ∙ length-shared (per_record e) i ls)

  rows_more : (i : ℕ) → rows_of (suc i) ≡ rows_of i ++ row e (take (per_record e) (drop (per_record e * i) ls))
  unfolding rows_of
  rows_more i =
      ap (λ (x : List (List Layer)). flat (map (row e) x)) (shared-more (per_record e) i ls)
      ∙ ap flat (map-append (row e) (shared (per_record e) i ls) (take (per_record e) (drop (per_record e * i) ls) ∷ []))
      ∙ flat_append (map (row e) (shared (per_record e) i ls)) (row e (take (per_record e) (drop (per_record e * i) ls)) ∷ [])
      ∙ ap (λ (x : List ℕ). flat (map (row e) (shared (per_record e) i ls)) ++ x) (append-nil (row e (take (per_record e) (drop (per_record e * i) ls))))

  put_is : (i : ℕ) → rows_put e used k i buffer₀ ≡ (take used buffer₀ ++ rows_of i) ++ drop (used + 84 * i) buffer₀
  unfolding rows_put rows_of
  put_is i = refl

  module _ (i : ℕ) (room : used + 84 * i ≤ length buffer₀) where
    front_long : length (take used buffer₀ ++ rows_of i) ≡ used + 84 * i
    front_long = length-append (take used buffer₀) (rows_of i) ∙ ap₂ (λ (a b : ℕ). a + b) (length-take-le used buffer₀ (omega arith)) (rows_long i)

    sheet-kept : take used (rows_put e used k i buffer₀) ≡ take used buffer₀
    sheet-kept = ap (take used) (put_is i ∙ append_assoc (take used buffer₀) (rows_of i) (drop (used + 84 * i) buffer₀)) ∙ take_at (take used buffer₀) (rows_of i ++ drop (used + 84 * i) buffer₀) used (length-take-le used buffer₀ (omega arith))

    length-kept : length (rows_put e used k i buffer₀) ≡ length buffer₀
    length-kept = ap length (put_is i) ∙ length-append (take used buffer₀ ++ rows_of i) (drop (used + 84 * i) buffer₀) ∙ rw (front_long, length-drop (used + 84 * i) buffer₀) (omega arith)

-- ---- so many layers stand before a record of the directory
pub before-few : (e : Edition) (each rows i : ℕ) → each ≡ per_record e → i < rows → rows ≤ 200000 → each * i ≤ 200000 * 11
before-few One each rows i q h m = rw q (omega arith)
before-few Two each rows i q h m = rw q (omega arith)

-- ---- the loop of `write_rows`: i records are written, and the layers of the others stand from record `at` on
pub record RowsSoFar (e : Edition) (used k rows : ℕ) (buffer₀ buffer : List ℕ) (at i : ℕ) : Type 0 where
  pub few : i ≤ rows
  pub left : layers_in (take used buffer₀) at ≡ drop (per_record e * i) (layers_in (take used buffer₀) k)
  pub so_far : buffer ≡ rows_put e used k i buffer₀

pub no_rows : (e : Edition) (used k rows : ℕ) (buffer : List ℕ) → RowsSoFar e used k rows buffer buffer k 0
unfolding rows_put
no_rows e used k rows buffer = record {
  few = omega arith;
  left = ap (λ (n : ℕ). drop n (layers_in (take used buffer) k)) (let x : 0 ≡ per_record e * 0 = omega arith in x);
  so_far = sym (ap₂ (λ (x : List ℕ) (n : ℕ). x ++ drop n buffer) (append-nil (take used buffer)) (let x : used + 84 * 0 ≡ used = omega arith in x) ∙ take-append-drop used buffer);
}

module _ (e : Edition) (used k rows : ℕ) (buffer₀ buffer : List ℕ) (at i : ℕ) (room : used + 84 * rows ≤ length buffer₀) (g : RowsSoFar e used k rows buffer₀ buffer at i) where
  so_room : used + 84 * i ≤ length buffer₀
  so_room = omega (arith, g.few)

  kept : take used buffer ≡ take used buffer₀
  kept = ap (take used) g.so_far ∙ sheet-kept e used k buffer₀ i so_room

  pub long_kept : length buffer ≡ length buffer₀
  long_kept = ap length g.so_far ∙ length-kept e used k buffer₀ i so_room

  pub sheet-inside : used ≤ length buffer
  sheet-inside = omega (arith, long_kept)

  pub records-few : used ≤ 84 * 200000 → length (records_of Plain (take used buffer)) ≤ 200000
  records-few h = omega (arith, ap length (front-records used buffer sheet-inside) ∙ length-chunks (used / 84) buffer)

  -- the layers before those of this record
  pub rows-kept : (first : List ℕ) (each : ℕ) → first ≡ first_numbers e (kept_layers e) (layers_in (take used buffer₀) k) → each ≡ per_record e → Kept (take used buffer) e first (each * i) at
  rows-kept first each first_is each-is = record {
    part = k;
    are = first_is ∙ ap (λ (x : List ℕ). first_numbers e (kept_layers e) (layers_in x k)) (sym kept);
    left = ap (λ (x : List ℕ). layers_in x at) kept ∙ g.left ∙ ap₂ (λ (n : ℕ) (x : List ℕ). drop (n * i) (layers_in x k)) (sym each-is) (sym kept);
  }

  pub row_put : i < rows → (r : Row) → RowFrom (take used buffer) e at r → (after : List ℕ) → after ≡ put_at buffer (used + 84 * i) r.bytes → RowsSoFar e used k rows buffer₀ after r.next (i + 1)
  row_put h r f after q = record { few = omega arith; left = left_more; so_far = put-more }
    where
      ls : List Layer
      ls = layers_in (take used buffer₀) k

      here : layers_in (take used buffer) at ≡ drop (per_record e * i) (layers_in (take used buffer₀) k)
      here = ap (λ (x : List ℕ). layers_in x at) kept ∙ g.left

      bytes : r.bytes ≡ row e (take (per_record e) (drop (per_record e * i) (layers_in (take used buffer₀) k)))
      bytes = f.bytes_are ∙ ap (λ (x : List Layer). row e (take (per_record e) x)) here

      wide : length r.bytes ≡ 84
      wide = row_long (take used buffer) e at r f

      left_more : layers_in (take used buffer₀) r.next ≡ drop (per_record e * (i + 1)) (layers_in (take used buffer₀) k)
      left_more = ap (λ (x : List ℕ). layers_in x r.next) (sym kept) ∙ f.left ∙ ap (drop (per_record e)) here ∙ drop-drop (per_record e) (per_record e * i) (layers_in (take used buffer₀) k) ∙ ap (λ (n : ℕ). drop n (layers_in (take used buffer₀) k)) (let x : per_record e * i + per_record e ≡ per_record e * (i + 1) = omega arith in x)

      put-more : after ≡ rows_put e used k (i + 1) buffer₀
      put-more =
          q
          ∙ put-behind (take used buffer₀ ++ rows_of e used k buffer₀ i) r.bytes buffer buffer₀ (used + 84 * i) (g.so_far ∙ put_is e used k buffer₀ i) (front_long e used k buffer₀ i so_room) (omega (arith, wide))
          ∙ ap₂ (λ (x : List ℕ) (n : ℕ). x ++ drop n buffer₀) (append_assoc (take used buffer₀) (rows_of e used k buffer₀ i) r.bytes ∙ ap (λ (x : List ℕ). take used buffer₀ ++ x) (ap (λ (x : List ℕ). rows_of e used k buffer₀ i ++ x) bytes ∙ sym (rows_more e used k buffer₀ i) ∙ ap (rows_of e used k buffer₀) (sym (add-one i)))) (let x : used + 84 * i + length r.bytes ≡ used + 84 * (i + 1) = omega (arith, wide) in x)
          ∙ sym (put_is e used k buffer₀ (i + 1))

-- ---- `write_directory`: the closing record behind them
module _ (e : Edition) (used part layers rows : ℕ) (buffer : List ℕ) (rows_are : rows ≡ round_up layers (per_record e)) (room : used + 84 * (round_up layers (per_record e) + 1) ≤ length buffer) where
  pub rows-room : used + 84 * rows ≤ length buffer
  rows-room = omega (arith, rows_are)

  module _ (put : List ℕ) (put-rows : put ≡ rows_put e used part rows buffer) where
    pub directory_put_lem : layers ≡ length (layers_in (take used buffer) part) → (bytes after : List ℕ) → bytes ≡ closing e (used / 84 + 1) layers → after ≡ put_at put (used + 84 * rows) bytes → after ≡ directory_put e used part buffer
    unfolding directory_put directory_of rows_of
    directory_put_lem counted bytes after bytes_are q =
        q
        ∙ put-behind (take used buffer ++ rows_of e used part buffer rows) bytes put buffer (used + 84 * rows) (put-rows ∙ put_is e used part buffer rows) (front_long e used part buffer rows rows-room) (omega (arith, wide, rows_are))
        ∙ ap (λ (x : List ℕ). x ++ drop (used + 84 * rows + length bytes) buffer) (append_assoc (take used buffer) (rows_of e used part buffer rows) bytes)
        ∙ append_assoc (take used buffer) (rows_of e used part buffer rows ++ bytes) (drop (used + 84 * rows + length bytes) buffer)
        ∙ ap₂ (λ (x : List ℕ) (n : ℕ). take used buffer ++ (x ++ drop n buffer)) (sym whole) (let x : used + 84 * rows + length bytes ≡ used + 84 * length (directory_of e (suc (used / 84)) (layers_in (take used buffer) part)) = omega (arith, wide, length_directory e (suc (used / 84)) (layers_in (take used buffer) part), own) in x)
      where
        wide : length bytes ≡ 84
        wide = ap length bytes_are ∙ length-closing e (used / 84 + 1) layers

        own : rows ≡ round_up (length (layers_in (take used buffer) part)) (per_record e)
        own = rows_are ∙ ap (λ (n : ℕ). round_up n (per_record e)) counted

        closes : closing e (suc (used / 84)) (length (layers_in (take used buffer) part)) ≡ bytes
        closes = sym (bytes_are ∙ ap₂ (closing e) (add-one (used / 84)) counted)

        whole : flat (directory_of e (suc (used / 84)) (layers_in (take used buffer) part)) ≡ rows_of e used part buffer rows ++ bytes
        whole =
            flat_append (map (row e) (shared (per_record e) (round_up (length (layers_in (take used buffer) part)) (per_record e)) (layers_in (take used buffer) part))) (closing e (suc (used / 84)) (length (layers_in (take used buffer) part)) ∷ [])
            ∙ ap₂ (λ (n : ℕ) (x : List ℕ). flat (map (row e) (shared (per_record e) n (layers_in (take used buffer) part))) ++ x) (sym own) (append-nil (closing e (suc (used / 84)) (length (layers_in (take used buffer) part))) ∙ closes)

-- ---- `append_edition`
pub append-room : (e : Edition) (used layers rows : ℕ) (buffer : List ℕ) → rows ≡ round_up layers (per_record e) → used + 84 * (rows + 1) ≤ length buffer → used + 84 * (round_up layers (per_record e) + 1) ≤ length buffer
append-room e used layers rows buffer q h = omega (arith, q)

module _ (e : Edition) (used : ℕ) (buffer : List ℕ) (directory : List (List ℕ)) where
  abbrev D : List (List ℕ)
  D = directory_of e (suc (used / 84)) (layers_of (chunks (used / 84) buffer))

  by : (answer : Answer Counts) → judge_sheet used buffer ≡ answer → append_directory e used buffer ≡ append_to answer used D buffer
  unfolding append_directory
  by answer q = ap (λ (v : Answer Counts). append_to v used D buffer) q

  pub append-refused : (w : Refusal) → listed_said (Err w) ≡ listed_in e used buffer directory → record { answer = edited_answer (Err w); bytes = buffer } ≡ append_directory e used buffer
  unfolding edited_answer
  append-refused w of = sym (by (refused (refusal_number w.reason) w.at) (listed_refusal used buffer directory e (listed_said (Err w)) of (not_zero w.reason)))

  module _ (listed : ListedSheet) (of : listed_said (Ok listed) ≡ listed_in e used buffer directory) where
    o : OpenedListed e used buffer directory (listed_said (Ok listed))
    o = opened-listed used buffer directory e (listed_said (Ok listed)) of refl

    a : Accepted (chunks (used / 84) buffer) (used / 84) o.counts
    a = accepted_of used buffer o.counts o.judged

    form : Whole used buffer
    form = whole-records (record { counts = o.counts; judged = o.judged })

    pub used-few : used ≤ 84 * 200000
    used-few = omega (arith, form.even, a.few)

    pub layers-few : listed.layers ≤ 200000
    layers-few = omega (arith, o.layers_are, few-layers (chunks (used / 84) buffer) (used / 84) o.counts a, a.few)

    layers-same : layers_in (take used buffer) listed.part ≡ layers_of (chunks (used / 84) buffer)
    unfolding views_in layers_of
    layers-same = ap₂ (λ (k : ℕ) (x : List (List ℕ)). layers_from 0 (suc k) (map view (drop k x))) o.part_is (front-records used buffer form.inside)

    pub first-kept : listed.first_numbers ≡ first_numbers e (kept_layers e) (layers_in (take used buffer) listed.part)
    first-kept = o.first_numbers_are ∙ ap (first_numbers e (kept_layers e)) (sym layers-same)

    pub layers_counted : listed.layers ≡ length (layers_in (take used buffer) listed.part)
    layers_counted = o.layers_are ∙ ap length (sym layers-same)

    module _ (rows : ℕ) (rows_are : rows ≡ round_up listed.layers (per_record e)) where
      pub rows-small : rows ≤ 200000
      rows-small = rows_few e listed.layers rows rows_are layers-few

      pub directory_fits : Fits w64 (84 * (rows + 1))
      directory_fits = record { fits = omega (arith, rows-small) }

      pub new_fits : Fits w64 (used + 84 * (rows + 1))
      new_fits = record { fits = omega (arith, rows-small, used-few) }

      new_is : used + 84 * (rows + 1) ≡ used + 84 * length D
      new_is = omega (arith, length_directory e (suc (used / 84)) (layers_of (chunks (used / 84) buffer)), rows_are ∙ ap (λ (n : ℕ). round_up n (per_record e)) o.layers_are)

      pub append-short : length buffer < used + 84 * (rows + 1) → (w : Refusal) → w ≡ refusal_for Reason.Room 0 → record { answer = edited_answer (Err w); bytes = buffer } ≡ append_directory e used buffer
      unfolding edited_answer
      append-short h w q = ap (λ (x : Refusal). record { answer = edited_answer (Err x); bytes = buffer }) q ∙ sym (by (given o.counts) o.judged ∙ ap (λ (t : Bool). cond t (record { answer = given (used + 84 * length D); bytes = take used buffer ++ (flat D ++ drop (used + 84 * length D) buffer) }) (record { answer = refused 15 0; bytes = buffer })) (lt-leb (used + 84 * length D) (length buffer) (rw (← new_is) h)))

      module _ (room : used + 84 * (rows + 1) ≤ length buffer) where
        pub appended : (after : List ℕ) → after ≡ directory_put e used listed.part buffer → record { answer = edited_answer (Ok (used + 84 * (rows + 1))); bytes = after } ≡ append_directory e used buffer
        unfolding edited_answer directory_put
        appended after q =
            ap₂ (λ (n : ℕ) (x : List ℕ). record { answer = given n; bytes = x }) new_is (q ∙ ap (λ (ls : List Layer). take used buffer ++ (flat (directory_of e (suc (used / 84)) ls) ++ drop (used + 84 * length (directory_of e (suc (used / 84)) ls)) buffer)) layers-same)
            ∙ sym (by (given o.counts) o.judged ∙ ap (λ (t : Bool). cond t (record { answer = given (used + 84 * length D); bytes = take used buffer ++ (flat D ++ drop (used + 84 * length D) buffer) }) (record { answer = refused 15 0; bytes = buffer })) (le-leb (used + 84 * length D) (length buffer) (rw (← new_is) room)))
