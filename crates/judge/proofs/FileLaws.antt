-- A whole file: stage one, the sheet part or the index, and the body behind it. Assumes nothing.
use Rattle.std.specs.Prelude.{Result, Ok, Err}
use Rattle.std.specs.Result.{result_and}
use mathlib.Core.Path.{◌≡◌, refl, sym, ap, ap₂, ◌∙◌}
use mathlib.Core.Bool.{Bool, true, false}
use mathlib.Core.List.{List, [], ◌++◌, map}
use Prim.Native.Nat.{ℕ, suc, ◌*◌, ◌/◌, ◌≤◌, ◌<◌}
use native.Mathlib.Omega.{arith}
use lib.ListN.{length, take, drop}
use lib.Seq.{length-take-le}
use Rattle.format.specs.Basics.{Answer, given, refused, chunks, flat, stage_one_ok}
use Rattle.format.specs.Record.{view}
use Rattle.format.specs.Judge.{Counts, File, file_of, accepted, judge, judge_records, judge_index_records, judge_sheet, judge_index, after_stage_one}
use Rattle.format.specs.Answers.{judged_answer}
use Rattle.format.specs.Reasons.{refusal_number, refusal_for}
use Rattle.format.specs.declared.Reason.TheVariants.{Length}
use Rattle.format.specs.declared.Counts as Judged
use Rattle.format.specs.declared.Refusal.{Refusal}
use Rattle.format.proofs.JudgeStages.{WholeOf, length_ok_lem, stage_one_lem}
use Rattle.format.proofs.JudgeRecords.{sheet_by}
use Rattle.format.proofs.AcceptedSheet.{counted_are}
use Rattle.format.proofs.ChecksJudging.{sheet_numbered}
use Rattle.format_directory.specs.declared.Edition.{Edition}
use Rattle.format_directory.specs.Directory.{layers_from, layers_of}
use Rattle.files.specs.declared.Stride.{Stride}
use Rattle.files.specs.declared.Stride.TheVariants.{Plain, Lines}
use Rattle.files.specs.Records.{stride_of, records_of, length_ok}
use Rattle.files.proofs.Records.{length-records, wide_records, front-records}
use Rattle.files.proofs.StageOne.{plain-length}
use Rattle.part_and_index.specs.declared.SheetPart as Part
use Rattle.part_and_index.specs.Result.{SheetPart, sheet_part_of, part_said, index_fault_of, index_said}
use Rattle.part_and_index.proofs.Laws.{SoundPart, sound-part, refused-part, sound-index, refused-index}
use Rattle.judge.specs.declared.body_records.Extent.{Extent}
use Rattle.judge.specs.Sheet.{Sheet}
use Rattle.judge.specs.declared.Sheet as Declared
use Rattle.judge.specs.Listed.{first_unlisted, first_numbers, kept_layers}
use Rattle.judge.specs.Walks.{ExtentOf, views_from, body_of, body_sheet, layers_at, Against, BodyAgainst, OpenedAgainst, against_said}
use Rattle.judge.specs.Sheet.{sheet_for, opened_sheet, records_sheet, opened_in, judge_by, sheet_said}
use Rattle.format.proofs.Reasons.{not_zero}

-- ---- behind stage one: the sheet part, then the body
module _ (stride : Stride) (file : List ℕ) where
  abbrev rs : List (List ℕ)
  rs = records_of stride file

  pub part_against : (before : ℕ) (directory : List (List ℕ)) (e : Edition) (r : Refusal) → part_said (Err r) ≡ sheet_part_of (records_of stride file) → OpenedAgainst (records_of stride file) before directory e (against_said (Err r))
  unfolding judge_records
  part_against before directory e r found = record {
    sheet_is = rw (refused-part rs (part_said (Err r)) found (not_zero r.reason));
    count = λ z. absurd (not_zero r.reason z);
    first_is = λ z. absurd (not_zero r.reason z);
    kept = λ z. absurd (not_zero r.reason z);
  }

  module _ (p : Part.SheetPart) (found : part_said (Ok p) ≡ sheet_part_of (records_of stride file)) (n before : ℕ) (counted : n ≡ length (records_of stride file)) where
    abbrev part : SheetPart
    part = part_said (Ok p)

    sound : SoundPart rs part
    sound = sound-part rs part found refl

    abbrev x : Extent
    x = record { stride = stride; records = n; before = before }

    pub file_extent : ExtentOf file x
    unfolding stride_of
    file_extent = record { counted = counted; few = omega (arith, counted, go stride) }
      where
        go : (stride : Stride) → 84 * length (records_of stride file) ≤ length file
        go Plain = let e : length (records_of Plain file) ≡ length file / 84 = length-records Plain file in omega arith
        go Lines = let e : length (records_of Lines file) ≡ length file / 86 = length-records Lines file in omega arith

    pub file-start : p.length ≤ n
    file-start = omega (arith, counted, sound.inside)

    file_is : body_of file x part ≡ file_of rs
    unfolding views_from
    file_is = λ i. record { part_length = sound.length_is i; stated_elements = sound.elements_is i; stated_records = sound.records_is i; body = map view (drop (sound.length_is i) rs) }

    pub file-body : (r : Sheet) → r ≡ body_sheet file x part → r ≡ records_sheet rs before
    unfolding judge_records
    file-body r e =
        e
        ∙ (λ i. sheet_for (judge (file_is i)) (sound.unit_is i) (sound.corners_are_lem i) (file_is i) before)
        ∙ rw sound.no_fault

    -- the same against the records of a directory
    layers_are : layers_at file x part.length ≡ layers_of rs
    unfolding layers_of
    layers_are = ap (λ (f : File). layers_from 0 (suc f.part_length) f.body) file_is

    pub file_against : (directory : List (List ℕ)) (e : Edition) (r : Against) → BodyAgainst file x part directory e r → OpenedAgainst rs before directory e r
    file_against directory e r b = record {
      sheet_is = file-body r.sheet b.sheet_is;
      count = λ z. (b.listing z).count ∙ ap length layers_are;
      first_is = λ z. (b.listing z).first_is ∙ ap (first_unlisted e directory 0) layers_are;
      kept = λ z. (b.listing z).kept ∙ ap (first_numbers e (kept_layers e)) layers_are;
    }

-- ---- stage one
module _ (stride : Stride) (used : ℕ) (buffer : List ℕ) where
  pub wrong-length : (of_records : List (List ℕ) → Answer Counts) (r : Refusal) → length_ok stride used buffer ≡ false → r ≡ refusal_for Length 0 → judged_answer (Err r) ≡ judge_by of_records stride used buffer
  unfolding judged_answer judge_by
  wrong-length of_records r h e = rw (e, h)

  module _ (h : length_ok stride used buffer ≡ true) where
    whole : WholeOf (stride_of stride) used buffer
    unfolding length_ok
    whole = length_ok_lem (stride_of stride) used buffer h

    pub used-length : used ≡ length (take used buffer)
    used-length = sym (length-take-le used buffer whole.inside)

    -- the file
    module _ (f : List ℕ) (f-is : f ≡ take used buffer) where
      -- the records that are judged
      abbrev file : List (List ℕ)
      file = records_of stride f

      by_records : (of_records : List (List ℕ) → Answer Counts) → judge_by of_records stride used buffer ≡ of_records file
      unfolding judge_by
      by_records of_records = ap (λ (t : Bool). after_stage_one t (of_records (records_of stride (take used buffer)))) h ∙ ap (λ (bytes : List ℕ). of_records (records_of stride bytes)) (sym f-is)

      how_many : length file ≡ used / stride_of stride
      how_many = length-records stride f ∙ ap (λ (n : ℕ). n / stride_of stride) (ap length f-is ∙ sym used-length)

      -- not none, and not above 200,000
      counted : (stride : Stride) (used : ℕ) (buffer : List ℕ) → WholeOf (stride_of stride) used buffer → (0 < used / stride_of stride) × (used / stride_of stride ≤ 200000)
      unfolding stride_of
      counted Plain used buffer w = (omega (arith, w.some, w.even), omega (arith, w.few))
      counted Lines used buffer w = (omega (arith, w.some, w.even), omega (arith, w.few))

      -- so they are judged as a plain file of their own
      plain : judge_sheet (84 * length file) (flat file ++ []) ≡ judge_records file
      plain = let c = counted stride used buffer whole in sheet_by file (length file) [] (wide_records stride f) refl (omega (arith, how_many, c.0)) (omega (arith, how_many, c.1))

      -- an opened sheet, as the code has it
      module _ (s : Result Declared.Sheet Refusal) (is : sheet_said s ≡ records_sheet file 0) where
        by : (answer : Answer Counts) → judge_records file ≡ answer → sheet_said s ≡ opened_sheet answer file 0
        by answer e = is ∙ ap (λ (a : Answer Counts). opened_sheet a file 0) e

      pub sheet-fault : (r : Refusal) → sheet_said (Err r) ≡ records_sheet file 0 → judged_answer (Err r) ≡ judge_by judge_records stride used buffer
      unfolding judged_answer
      sheet-fault r is = go (judge_records file) refl
        where
          go : (answer : Answer Counts) → judge_records file ≡ answer → refused (refusal_number r.reason) r.at ≡ judge_by judge_records stride used buffer
          go (given counts) e = absurd (not_zero r.reason (ap (λ (r : Sheet). r.fault) (by (Err r) is (given counts) e)))
          go (refused number at) e = ap₂ refused (ap (λ (r : Sheet). r.fault) (by (Err r) is (refused number at) e)) (ap (λ (r : Sheet). r.at) (by (Err r) is (refused number at) e)) ∙ sym (by_records judge_records ∙ e)

      pub sheet-counts : (s : Declared.Sheet) → sheet_said (Ok s) ≡ records_sheet file 0 → (n : ℕ) → n ≡ length file → judged_answer (Ok (record { records = n; items = s.items })) ≡ judge_by judge_records stride used buffer
      unfolding judged_answer
      sheet-counts s is n many = go (judge_records file) refl
        where
          go : (answer : Answer Counts) → judge_records file ≡ answer → accepted n s.items ≡ judge_by judge_records stride used buffer
          go (given counts) e = ap₂ accepted all (ap (λ (r : Sheet). r.items) (by (Ok s) is (given counts) e)) ∙ sym (by_records judge_records ∙ e)
            where
              all : n ≡ counts.records
              all = many ∙ (let q : length file ≡ 84 * length file / 84 = omega arith in q) ∙ counted_are (record { counts = counts; judged = plain ∙ e })
          go (refused number at) e = absurd (omega (arith, ap (λ (r : Sheet). r.fault) (by (Ok s) is (refused number at) e), sheet_numbered (84 * length file) (flat file ++ []) number at (plain ∙ e)))

      -- an index, by its verdict
      pub index-judged : (checked : Result (Unit {0}) Refusal) → index_said checked ≡ index_fault_of file → (n : ℕ) → n ≡ length file → (answer : Result Judged.Counts Refusal) → answer ≡ result_and checked (Ok (record { records = n; items = 0 })) → judged_answer answer ≡ judge_by judge_index_records stride used buffer
      unfolding judged_answer judge_index_records
      index-judged (Err r) found n many answer is = ap judged_answer is ∙ sym (by_records judge_index_records ∙ rw (refused-index file (index_said {A = Unit {0}} (Err r)) found (not_zero r.reason)))
      index-judged (Ok u) found n many answer is = ap judged_answer is ∙ sym (by_records judge_index_records ∙ rw (sound-index file (index_said (Ok u)) found refl, many))

-- ---- a plain file
module _ (used : ℕ) (buffer : List ℕ) where
  -- stage one of a file whose length passes it, and its records
  plain_by : (of_records : List (List ℕ) → Answer Counts) → judge_by of_records Plain used buffer ≡ after_stage_one (stage_one_ok used buffer) (of_records (chunks (used / 84) buffer))
  unfolding judge_by
  plain_by of_records = rw (plain-length used buffer) (go (stage_one_ok used buffer) refl)
    where
      go : (t : Bool) → stage_one_ok used buffer ≡ t → after_stage_one t (of_records (records_of Plain (take used buffer))) ≡ after_stage_one t (of_records (chunks (used / 84) buffer))
      go true e = ap of_records (front-records used buffer (stage_one_lem used buffer e).inside)
      go false e = refl

  pub plain-sheet : (answer : Answer Counts) → answer ≡ judge_by judge_records Plain used buffer → answer ≡ judge_sheet used buffer
  unfolding judge_sheet
  plain-sheet answer e = e ∙ plain_by judge_records

  pub plain-index : (answer : Answer Counts) → answer ≡ judge_by judge_index_records Plain used buffer → answer ≡ judge_index used buffer
  unfolding judge_index
  plain-index answer e = e ∙ plain_by judge_index_records

  -- opening one
  stage : stage_one_ok used buffer ≡ length_ok Plain used buffer
  stage = sym (plain-length used buffer)

  pub sheet-length : (before : ℕ) (r : Refusal) → length_ok Plain used buffer ≡ false → r ≡ refusal_for Length 0 → sheet_said (Err r) ≡ opened_in used buffer before
  unfolding opened_in judge_sheet
  sheet-length before r h e = rw (e, stage, h)

  pub sheet-opened : length_ok Plain used buffer ≡ true → (before : ℕ) (r : Sheet) → r ≡ records_sheet (records_of Plain (take used buffer)) before → r ≡ opened_in used buffer before
  unfolding opened_in judge_sheet
  sheet-opened h before r e =
      let passes : stage_one_ok used buffer ≡ true = stage ∙ h in
      e ∙ ap (λ (rs : List (List ℕ)). records_sheet rs before) (front-records used buffer (stage_one_lem used buffer passes).inside) ∙ rw passes
